use Rattle.std.proofs.Common.{◌≡◌, ℕ, None}
use Rattle.clause_store.specs.Stored.{slot}
use Rattle.taint_restore.proofs.tests.three_parked.Given as goal

abbrev pub invariant-loop-low : goal.invariant-loop-low
invariant-loop-low l = (id : ℕ) → slot l.kernel.store id ≡ None
