use Rattle.std.proofs.Common.{◌≡◌, ◌<◌, ◌∙◌, length, sym, ap, refl}
use Rattle.std.proofs.lemmas.Bool.{eqb-true}
use Rattle.watch_lists.specs.Watching.{copy, at}
use Rattle.watch_lists.specs.Propagation.{Watching, Follows, ids_of}
use Rattle.sat_terms.proofs.Members.{has_at}
use Rattle.watch_lists.proofs.Following.{follows_short, follows_like}
use Rattle.watch_lists.proofs.Placings.{follows_watched, no_copy, copy_undone, few_left}
use Rattle.watch_lists.proofs.watches.Watches.place.Goals as goal

pub returns-then-lits-lt2-clause-follows : goal.returns-then-lits-lt2-clause-follows
returns-then-lits-lt2-clause-follows c =
    follows_short _ _ _ _ c.args.id refl refl c.in_ok-push.ensures.items refl refl refl refl (rw (← c.self.view_is) at c.requires.attached) (rw c.get-lits.ensures.value at c.if-lits-lt2.true) (rw (← c.self.view_is) at c.requires.follows)

pub returns-in_err-reach-clause-follows : goal.returns-in_err-reach-clause-follows
returns-in_err-reach-clause-follows c =
    follows_like _ _ _ _ refl refl refl refl refl c.reach.ensures.longer c.reach.ensures.same (λ k. refl) (rw (← c.self.view_is) at c.requires.follows)

pub returns-in_err-reach-2-clause-follows : goal.returns-in_err-reach-2-clause-follows
returns-in_err-reach-2-clause-follows c =
    follows_like _ _ _ _ refl refl refl refl refl c.reach.ensures.longer c.reach.ensures.same c.reach-2.ensures.same (rw (← c.self.view_is) at c.requires.follows)

pub returns-in_err-add-clause-follows : goal.returns-in_err-add-clause-follows
returns-in_err-add-clause-follows c =
    follows_like _ _ _ _ refl refl refl refl refl c.reach.ensures.longer c.reach.ensures.same (λ k. ap (λ z. copy z k) c.in_err-add.ensures.err ∙ c.reach-2.ensures.same k) (rw (← c.self.view_is) at c.requires.follows)

pub push_both-requires-clause-one : goal.push_both-requires-clause-one
push_both-requires-clause-one c = c.in_ok-reach.ensures.long c.index-lits-one.result (has_at c.get-lits.result.now c.best_at-one.result c.index-lits-one.result c.best_at-one.ensures.within c.index-lits-one.is)

pub push_both-requires-clause-other : goal.push_both-requires-clause-other
push_both-requires-clause-other c = c.in_ok-reach.ensures.long c.index-lits-other.result (has_at c.get-lits.result.now c.best_at-other.result c.index-lits-other.result c.best_at-other.ensures.within c.index-lits-other.is)

pub returns-in-Err-clause-follows : goal.returns-in-Err-clause-follows
returns-in-Err-clause-follows c =
    let f : Follows _ c.args.store.now c.args.trail.now = rw (← c.self.view_is) at c.requires.follows in
    let few : length (copy c.self.inside.copies c.args.id) < 2 = few_left c.holds.result _ (rw c.index-at.ensures at c.holds.ensures) c.if-holds.false in
    let empty = no_copy c.self.inside.copies c.args.id (f.fits.bare c.args.id) few in
    let e : c.push_both.new.lists.items ≡ c.reach.new.lists.items = c.in-Err.ensures.err in
    let le = c.reach.ensures.longer in
    follows_like _ _ _ _ refl refl refl refl refl (rw e le) (λ l. ap (λ z. at z l) e ∙ c.reach.ensures.same l)
    (copy_undone c.self.inside.copies c.reach-2.new.self c.add.new.self c.remove.new.self c.args.id _ c.reach-2.ensures.same empty (rw c.index-at.ensures at c.in_ok-reach-2.ensures.long) (rw c.index-at.ensures at c.in_ok-add.ensures.ok) (rw c.index-at.ensures at c.remove.ensures)) f

pub returns-clause-follows : goal.returns-clause-follows
returns-clause-follows c =
    let f : Follows _ c.args.store.now c.args.trail.now = rw (← c.self.view_is) at c.requires.follows in
    let few : length (copy c.self.inside.copies c.args.id) < 2 = few_left c.holds.result _ (rw c.index-at.ensures at c.holds.ensures) c.if-holds.false in
    let empty = no_copy c.self.inside.copies c.args.id (f.fits.bare c.args.id) few in
    let w : Watching = record { attached = ids_of c.self.inside.attached; declared = c.self.inside.declared; waiting = c.self.inside.waiting.items; lists = c.reach.new.lists.items; copies = c.reach-2.new.self; short = c.self.inside.short.items; fixed = c.self.inside.fixed; head = c.self.inside.head } in
    let g : Follows w c.args.store.now c.args.trail.now = follows_like _ w _ _ refl refl refl refl refl c.reach.ensures.longer c.reach.ensures.same c.reach-2.ensures.same f in
    follows_watched w _ c.args.store.now c.args.trail.now c.args.id c.best_at-one.result c.best_at-other.result c.index-lits-one.result c.index-lits-other.result c.low_head-self-inside.result _ c.get-lits.result.now
    g (rw (← c.self.view_is) at c.requires.attached) (c.reach-2.ensures.same c.args.id ∙ empty) (rw c.index-at.ensures at c.in_ok-reach-2.ensures.long) c.get-lits.ensures.value c.best_at-one.ensures.within c.best_at-other.ensures.within (λ e. c.best_at-other.ensures.apart (sym e))
    c.get-lits.ensures.normal.rising c.index-lits-one.is c.index-lits-other.is (λ e. eqb-true (length c.get-lits.result.now) 2 e) c.in_ok-reach.ensures.long c.in_default.ensures.ok (rw c.index-at.ensures at c.in_ok-add.ensures.ok)
    refl refl refl refl c.low_head-self-inside.ensures.least c.low_head-self-inside-2.ensures.least c.low_head-self-inside.ensures.low c.low_head-self-inside-2.ensures.low
