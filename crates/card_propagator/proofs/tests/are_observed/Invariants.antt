use Rattle.std.proofs.Common.{take}
use Rattle.user_propagator.specs.Meaning.{AreObserved}
use Rattle.card_propagator.proofs.tests.are_observed.Given as goal

abbrev pub invariant-loop-lit : goal.invariant-loop-lit
invariant-loop-lit l = AreObserved l.desk (take l.lit-index l.lits)
