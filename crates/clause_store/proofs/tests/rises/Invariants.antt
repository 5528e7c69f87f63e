use Rattle.std.proofs.Common.{ℕ, ◌+◌, ◌<◌, get_or}
use Rattle.sat_terms.specs.Literal.{var_of}
use Rattle.clause_store.proofs.tests.rises.Given as goal

abbrev pub invariant-loop-i : goal.invariant-loop-i
invariant-loop-i l = (k : ℕ) → k + 1 < l.i → var_of (get_or l.lits k 0) < var_of (get_or l.lits (k + 1) 0)
