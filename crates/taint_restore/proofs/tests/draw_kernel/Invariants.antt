use Rattle.std.proofs.Common.{◌≡◌, ℕ, None}
use Rattle.clause_store.specs.Stored.{slot}
use Rattle.taint_restore.proofs.tests.draw_kernel.Given as goal

abbrev pub invariant-loop-try : goal.invariant-loop-try
invariant-loop-try l = (id : ℕ) → slot l.kernel.store id ≡ None
