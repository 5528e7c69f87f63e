use Rattle.std.proofs.Common.{take}
use Rattle.conflict_analysis.proofs.Fronts.{MarkedTo}
use Rattle.conflict_analysis.proofs.scratch.Scratch.mark_all.Given as goal

abbrev pub invariant-loop-lit : goal.invariant-loop-lit
invariant-loop-lit l = MarkedTo l.trail l.below l.initial.self l.self (take l.lit-index l.clause)
