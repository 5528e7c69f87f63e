use Rattle.std.proofs.Common.{◌≡◌, true}
use Rattle.sat_terms.specs.Literal.{has}
use Rattle.equiv_subst.proofs.pairs.representative.Given as goal

abbrev pub invariant-loop-lit : goal.invariant-loop-lit
invariant-loop-lit l = has l.members l.best ≡ true
