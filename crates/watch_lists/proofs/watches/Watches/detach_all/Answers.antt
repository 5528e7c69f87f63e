use Rattle.std.proofs.Common.{◌≡◌, ◌&&◌, ◌∙◌, ℕ, not, ap, sym, refl}
use Rattle.std.specs.Prelude.{filter}
use Rattle.sat_terms.specs.Literal.{has}
use Rattle.watch_lists.specs.Watching.{at}
use Rattle.watch_lists.specs.Propagation.{ids_of}
use Rattle.watch_lists.proofs.Marking.{has-ids_of}
use Rattle.watch_lists.proofs.Sweeping.{kept_by, kept_like, follows_swept}
use Rattle.watch_lists.proofs.watches.Watches.detach_all.Goals as goal
use Rattle.watch_lists.proofs.watches.Watches.detach_all.Goals.{After-self-1}

-- the ids that are left
less : (c : After-self-1) → (k : ℕ) → has (ids_of c.remove_all.new.self) k ≡ (has (ids_of c.self.inside.attached) k && not (has c.args.ids.now k))
less c k = has-ids_of c.remove_all.new.self k ∙ c.remove_all.ensures k ∙ ap (λ b. b && not (has c.args.ids.now k)) (sym (has-ids_of c.self.inside.attached k))

pub returns-clause-attached : goal.returns-clause-attached
returns-clause-attached c = rw (← c.self.view_is) (less c)

pub returns-clause-follows : goal.returns-clause-follows
returns-clause-follows c =
    let here = λ (k : ℕ). sym (has-ids_of c.remove_all.new.self k) in
    rw (← c.self.view_is) (λ t h. follows_swept _ _ _ t c.args.ids.now (less c) (λ k. c.keep_attached.ensures k ∙ ap (λ b. has c.self.inside.waiting.items k && b) (here k)) (λ k. c.keep_attached-2.ensures k ∙ ap (λ b. has c.self.inside.short.items k && b) (here k))
    c.sweep.ensures.sized (λ l. c.sweep.ensures.left l ∙ kept_like _ _ here (at c.self.inside.lists.items l)) c.remove_all-2.ensures refl refl h)
