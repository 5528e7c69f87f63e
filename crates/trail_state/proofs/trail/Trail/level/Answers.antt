use Rattle.std.proofs.Common.{arith}
use Rattle.trail_state.proofs.Holding.{few_levels}
use Rattle.trail_state.proofs.trail.Trail.level.Goals as goal

pub overflow_cast-result : goal.overflow_cast-result
overflow_cast-result c =
    let few = few_levels _ _ _ _ _ _ _ c.self.invariant.0 in
    omega (arith, few.0, few.1, few.2, c.len.ensures, c.self.inside.starts.ok.0)
