use Rattle.std.proofs.Common.{◌≡◌, ℕ, None}
use Rattle.clause_store.specs.Stored.{slot}
use Rattle.rule_kernel.proofs.tests.park_rows.Given as goal

abbrev pub invariant-loop-n : goal.invariant-loop-n
invariant-loop-n l = (id : ℕ) → slot l.kernel.store id ≡ None
