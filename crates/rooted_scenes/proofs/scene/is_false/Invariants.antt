use Rattle.std.proofs.Common.{take}
use Rattle.trail_state.specs.Clauses.{FalseOn}
use Rattle.rooted_scenes.proofs.scene.is_false.Given as goal

abbrev pub invariant-loop-lit : goal.invariant-loop-lit
invariant-loop-lit l = FalseOn l.trail.steps (take l.lit-index l.clause)
