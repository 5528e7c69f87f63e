use Rattle.std.proofs.Common.{take}
use Rattle.vivify_pass.proofs.Holding.{HeldIn}
use Rattle.vivify_pass.proofs.held.held_lit.Given as goal

abbrev pub invariant-loop-lit : goal.invariant-loop-lit
invariant-loop-lit l = HeldIn l.trail.steps (take l.lit-index l.lits) l.found
