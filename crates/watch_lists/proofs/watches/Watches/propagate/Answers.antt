use Rattle.std.proofs.Common.{◌≡◌, ◌∙◌, [], ap, sym, refl, length, arith}
use Rattle.std.specs.Vec.{with_items}
use Rattle.std.proofs.lemmas.List.{with_items_is}
use Rattle.watch_lists.specs.Propagation.{Watching, Follows, Fits, ids_of}
use Rattle.watch_lists.proofs.Growing.{grown_more, from_none}
use Rattle.watch_lists.proofs.Following.{on_longer}
use Rattle.watch_lists.proofs.Shortages.{fixed_grown, met_grown}
use Rattle.watch_lists.proofs.Ending.{all_quiet, is_listed, if_none, follows_ended, follows_grown}
use Rattle.watch_lists.proofs.watches.Watches.propagate.Goals as goal

pub returns-then-is_some-clause-follows : goal.returns-then-is_some-clause-follows
returns-then-is_some-clause-follows c =
    let v = c.self.view_is in
    let f : Follows _ c.args.store.now c.args.trail.now = rw (← v) at c.in_ok-place_all.ensures.follows in
    let g = c.pass_short-conflict.ensures.grown in
    follows_grown _ _ _ _ _ f g (rw c.as_slice.ensures.value at c.pass_short-conflict.ensures.fixed) refl refl refl refl refl refl

pub run-answer-requires-clause-follows : goal.run-answer-requires-clause-follows
run-answer-requires-clause-follows c =
    let v = c.self.view_is in
    let f : Follows _ c.args.store.now c.args.trail.now = rw (← v) at c.in_ok-place_all.ensures.follows in
    let g = c.pass_short-conflict.ensures.grown in
    rw g.steps (on_longer _ _ _ g.tail _ f.on)

pub returns-clause-follows : goal.returns-clause-follows
returns-clause-follows c =
    let v = c.self.view_is in
    let f : Follows _ c.args.store.now c.args.trail.now = rw (← v) at c.in_ok-place_all.ensures.follows in
    let g = c.pass_short-conflict.ensures.grown in
    let h = c.run-answer.ensures.grown in
    let r = c.run-answer.ensures in
    let d = c.deref_mut.ensures.value in
    let e : (with_items c.self.inside.lists c.run-answer.new.lists).items ≡ c.run-answer.new.lists = with_items_is c.self.inside.lists c.run-answer.new.lists (r.sized ∙ ap length d ∙ omega (arith, c.self.inside.lists.ok.0)) in
    let ended : Follows (record { attached = ids_of c.self.inside.attached; declared = c.self.inside.declared; waiting = c.self.inside.waiting.items; lists = c.run-answer.new.lists; copies = c.run-answer.new.copies; short = c.self.inside.short.items; fixed = c.pass_short-conflict.new.fixed; head = c.run-answer.new.head }) c.args.store.now c.run-answer.new.trail =
    follows_ended _ _ _ _ _ f (grown_more _ _ _ _ _ g h) (fixed_grown _ _ _ _ _ _ h (rw c.as_slice.ensures.value at c.pass_short-conflict.ensures.fixed)) refl refl refl (r.sized ∙ ap length d) (rw d at r.kept) r.copied r.keeps r.follows in
    let none = ap (λ (w : Watching). w.waiting) v ∙ c.in_ok-place_all.ensures.none in
    let ids : ids_of c.self.inside.attached ≡ c.args.self.now.attached = ap (λ (w : Watching). w.attached) v ∙ c.in_ok-place_all.ensures.attached ∙ ap (λ (w : Watching). w.attached) c.compact_if_sparse.ensures in
    rw e ended

pub returns-clause-grown : goal.returns-clause-grown
returns-clause-grown c =
    let ids : ids_of c.self.inside.attached ≡ c.args.self.now.attached = ap (λ (w : Watching). w.attached) c.self.view_is ∙ c.in_ok-place_all.ensures.attached ∙ ap (λ (w : Watching). w.attached) c.compact_if_sparse.ensures in
    rw (← ids) (grown_more _ _ _ _ _ c.pass_short-conflict.ensures.grown c.run-answer.ensures.grown)

pub returns-clause-quiet : goal.returns-clause-quiet
returns-clause-quiet c =
    let v = c.self.view_is in
    let f : Follows _ c.args.store.now c.args.trail.now = rw (← v) at c.in_ok-place_all.ensures.follows in
    let g = c.pass_short-conflict.ensures.grown in
    let h = c.run-answer.ensures.grown in
    let r = c.run-answer.ensures in
    let d = c.deref_mut.ensures.value in
    let e : (with_items c.self.inside.lists c.run-answer.new.lists).items ≡ c.run-answer.new.lists = with_items_is c.self.inside.lists c.run-answer.new.lists (r.sized ∙ ap length d ∙ omega (arith, c.self.inside.lists.ok.0)) in
    let ended : Follows (record { attached = ids_of c.self.inside.attached; declared = c.self.inside.declared; waiting = c.self.inside.waiting.items; lists = c.run-answer.new.lists; copies = c.run-answer.new.copies; short = c.self.inside.short.items; fixed = c.pass_short-conflict.new.fixed; head = c.run-answer.new.head }) c.args.store.now c.run-answer.new.trail =
    follows_ended _ _ _ _ _ f (grown_more _ _ _ _ _ g h) (fixed_grown _ _ _ _ _ _ h (rw c.as_slice.ensures.value at c.pass_short-conflict.ensures.fixed)) refl refl refl (r.sized ∙ ap length d) (rw d at r.kept) r.copied r.keeps r.follows in
    let none = ap (λ (w : Watching). w.waiting) v ∙ c.in_ok-place_all.ensures.none in
    let ids : ids_of c.self.inside.attached ≡ c.args.self.now.attached = ap (λ (w : Watching). w.attached) v ∙ c.in_ok-place_all.ensures.attached ∙ ap (λ (w : Watching). w.attached) c.compact_if_sparse.ensures in
    let met = met_grown _ _ _ _ _ _ h (rw c.as_slice.ensures.value at (from_none _ _ (sym c.is_some.ensures ∙ c.if-is_some.false) c.pass_short-conflict.ensures.met)) in
    let fits : Fits (ids_of c.self.inside.attached) [] c.self.inside.short.items c.run-answer.new.lists c.run-answer.new.copies c.args.store.now = rw none at ended.fits in
    if_none c.run-answer.result _ _ _ (λ q. rw (← ids) (all_quiet _ _ _ _ _ c.run-answer.new.trail c.law_shape.ensures fits met q)) r.answer

pub returns-clause-listed : goal.returns-clause-listed
returns-clause-listed c =
    let v = c.self.view_is in
    let f : Follows _ c.args.store.now c.args.trail.now = rw (← v) at c.in_ok-place_all.ensures.follows in
    let g = c.pass_short-conflict.ensures.grown in
    let h = c.run-answer.ensures.grown in
    let r = c.run-answer.ensures in
    let d = c.deref_mut.ensures.value in
    let e : (with_items c.self.inside.lists c.run-answer.new.lists).items ≡ c.run-answer.new.lists = with_items_is c.self.inside.lists c.run-answer.new.lists (r.sized ∙ ap length d ∙ omega (arith, c.self.inside.lists.ok.0)) in
    let ended : Follows (record { attached = ids_of c.self.inside.attached; declared = c.self.inside.declared; waiting = c.self.inside.waiting.items; lists = c.run-answer.new.lists; copies = c.run-answer.new.copies; short = c.self.inside.short.items; fixed = c.pass_short-conflict.new.fixed; head = c.run-answer.new.head }) c.args.store.now c.run-answer.new.trail =
    follows_ended _ _ _ _ _ f (grown_more _ _ _ _ _ g h) (fixed_grown _ _ _ _ _ _ h (rw c.as_slice.ensures.value at c.pass_short-conflict.ensures.fixed)) refl refl refl (r.sized ∙ ap length d) (rw d at r.kept) r.copied r.keeps r.follows in
    let none = ap (λ (w : Watching). w.waiting) v ∙ c.in_ok-place_all.ensures.none in
    let ids : ids_of c.self.inside.attached ≡ c.args.self.now.attached = ap (λ (w : Watching). w.attached) v ∙ c.in_ok-place_all.ensures.attached ∙ ap (λ (w : Watching). w.attached) c.compact_if_sparse.ensures in
    if_none c.run-answer.result _ _ _ (λ q. rw e (is_listed _ _ none ended.fits)) r.answer
