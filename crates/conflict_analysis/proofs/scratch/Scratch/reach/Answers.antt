use Rattle.std.proofs.Common.{arith}
use Rattle.conflict_analysis.proofs.Clearing.{scratch_reached}
use Rattle.conflict_analysis.proofs.scratch.Scratch.reach.Goals as goal

pub invariant_of-self-2 : goal.invariant_of-self-2
invariant_of-self-2 c = scratch_reached _ _ _ _ _ _ c.self.invariant c.reach_flags.ensures.same c.reach_flags.ensures.longer c.reach_flags-2.ensures.same c.reach_flags-2.ensures.longer
    (omega (arith, c.self.invariant.room, c.reach_flags.ensures.longer, c.in_ok-reach_flags.ensures.long, c.reach_flags-2.ensures.bound))
