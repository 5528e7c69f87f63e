use Rattle.std.proofs.Common.{◌≤◌, ℕ, length, ap, ◌∙◌, arith}
use Rattle.std.specs.Prelude.{Result, Ok, Err, OnErr}
use Rattle.clause_store.specs.Placing.{slots}
use Rattle.clause_store.proofs.Arrays.{appended_slots, known_fills, new_fills, slots_length}
use Rattle.clause_store.proofs.Amounts.{arranged_grown, arranged_known, arranged_new}
use Rattle.clause_store.proofs.arena.Arena.add.Goals as goal

on_err : {A E : Type 0} (r : Result A E) (P : Type 0) → P → OnErr r P
on_err (Ok a) P h = tt
on_err (Err e) P h = h

pub invariant_of-self-then-id-len : goal.invariant_of-self-then-id-len
invariant_of-self-then-id-len c = arranged_known _ _ _ _ _ _ _ _ c.in_ok-extend_from_slice.ensures.items (omega arith) c.self.invariant (omega (arith, c.in_ok-extend_from_slice.ensures.len)) (omega arith)

pub invariant_of-self-in_err-push : goal.invariant_of-self-in_err-push
invariant_of-self-in_err-push c = rw c.in_err-push.ensures.items (arranged_grown _ _ _ _ c.in_ok-extend_from_slice.ensures.items c.self.invariant (omega (arith, c.in_ok-extend_from_slice.ensures.len)))

pub invariant_of-self-in-Continue-branch-2 : goal.invariant_of-self-in-Continue-branch-2
invariant_of-self-in-Continue-branch-2 c =
    rw c.in_ok-push.ensures.items (arranged_new _ _ _ _ _ c.args.id _ _ c.in_ok-extend_from_slice.ensures.items (omega arith) c.self.invariant (omega (arith, c.in_ok-extend_from_slice.ensures.len)))

pub returns-in_err-push-clause-err : goal.returns-in_err-push-clause-err
returns-in_err-push-clause-err c =
    let n : ℕ = c.len-start.result in
    on_err c.from_residual-in_err-push.result _
    (ap (λ z. slots c.extend_from_slice.new.self.items z) c.in_err-push.ensures.items
    ∙ appended_slots _ _ _ _ n n c.args.keep n c.in_ok-extend_from_slice.ensures.items (omega arith) c.self.invariant.within ∙ ap (λ h. h.clauses) c.self.view_is)

pub returns-then-id-len-clause-ok : goal.returns-then-id-len-clause-ok
returns-then-id-len-clause-ok c =
    rw (← c.self.view_is) (known_fills c.self.inside.words.items c.args.lits.now _ _ c.len-start.result c.args.id c.args.keep c.args.glue c.in_ok-extend_from_slice.ensures.items (omega arith) c.self.invariant.within (omega arith) (rw (← c.self.view_is) at c.requires.free))

pub returns-in_ok-push-clause-ok : goal.returns-in_ok-push-clause-ok
returns-in_ok-push-clause-ok c =
    let a : c.args.id ≤ length (slots c.self.inside.words.items c.self.inside.places.items) = rw (← c.self.view_is) at c.requires.near in
    let b = slots_length c.self.inside.words.items c.self.inside.places.items in
    rw (← c.self.view_is, c.in_ok-push.ensures.items) (new_fills c.self.inside.words.items c.args.lits.now _ _ c.len-start.result c.args.id c.args.keep c.args.glue c.in_ok-extend_from_slice.ensures.items (omega arith) c.self.invariant.within (omega arith) (rw (← c.self.view_is) at c.requires.free))
