use Rattle.std.proofs.Common.{◌≡◌, ℕ, None}
use Rattle.clause_store.specs.Stored.{slot}
use Rattle.restore_runs.proofs.runs.parked.Given as goal

abbrev pub invariant-loop-number : goal.invariant-loop-number
invariant-loop-number l = (id : ℕ) → slot l.kernel.store id ≡ None
