use Rattle.std.proofs.Common.{◌≡◌, refl, arith}
use Rattle.trail_state.proofs.Holding.{few_levels, start_is}
use Rattle.trail_state.proofs.trail.Trail.start_of.Goals as goal

pub overflow_cast-len : goal.overflow_cast-len
overflow_cast-len c =
    let few = few_levels _ _ _ _ _ _ _ c.self.invariant.0 in
    omega (arith, few.1, few.2, c.len.ensures, c.self.inside.lits.ok.0)

pub returns : goal.returns
returns c = rw (← c.self.view_is, c.start_in.ensures, c.as_slice.ensures.value) (start_is _ _ _ _ _ _ _ c.args.level c.len.result c.self.invariant.0 (omega (arith, c.len.ensures, c.self.inside.lits.ok.0)))
