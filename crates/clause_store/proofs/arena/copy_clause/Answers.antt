use Rattle.std.proofs.Common.{◌≡◌, Bool, not, true, false, refl, arith}
use Rattle.std.proofs.lemmas.Bool.{not-true}
use Rattle.clause_store.proofs.Arrays.{within_push, copied_dead, copied_within, copied_live}
use Rattle.clause_store.proofs.arena.copy_clause.Goals as goal

not-false' : (b : Bool) → not b ≡ false → b ≡ true
not-false' true h = refl
not-false' false h = cc

pub returns-then-not-place-clause-within : goal.returns-then-not-place-clause-within
returns-then-not-place-clause-within c = rw c.in_ok-push.ensures.items (within_push _ _ _ (omega arith) c.requires.within)

pub returns-then-not-place-clause-slots : goal.returns-then-not-place-clause-slots
returns-then-not-place-clause-slots c = copied_dead _ _ _ _ c.args.place (not-true _ c.if-not-place.true) c.in_ok-push.ensures.items

pub returns-clause-within : goal.returns-clause-within
returns-clause-within c = copied_within _ _ c.args.from.now _ _ c.args.place c.len-start.result (not-false' _ c.if-not-place.false) c.requires.place c.in_ok-extend_from_slice.ensures.items (omega arith) c.in_ok-push-2.ensures.items c.requires.within

pub returns-clause-slots : goal.returns-clause-slots
returns-clause-slots c = copied_live _ _ c.args.from.now _ _ c.args.place c.len-start.result (not-false' _ c.if-not-place.false) c.requires.place c.in_ok-extend_from_slice.ensures.items (omega arith) c.in_ok-push-2.ensures.items c.requires.within
