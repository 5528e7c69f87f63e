use Rattle.std.proofs.Common.{◌≡◌, ℕ, None}
use Rattle.clause_store.specs.Stored.{slot}
use Rattle.taint_restore.proofs.tests.tall.Given as goal

abbrev pub invariant-loop-n : goal.invariant-loop-n
invariant-loop-n l = (id : ℕ) → slot l.kernel.store id ≡ None
