use Rattle.std.proofs.Common.{◌∙◌, sym}
use Rattle.trail_state.proofs.Steps.{lits_of-steps}
use Rattle.trail_state.proofs.trail.Trail.lits.Goals as goal

pub returns : goal.returns
returns c = rw (← c.self.view_is) (c.as_slice.ensures.value ∙ sym (lits_of-steps _ _ _ _))
