use Rattle.std.proofs.Common.{◌≡◌, ℕ, true}
use Rattle.sat_terms.specs.Literal.{has}
use Rattle.watch_lists.proofs.tests.every_second.Given as goal

abbrev pub invariant-loop-id : goal.invariant-loop-id
invariant-loop-id l = (k : ℕ) → has l.gone k ≡ true → has l.watches.attached k ≡ true
