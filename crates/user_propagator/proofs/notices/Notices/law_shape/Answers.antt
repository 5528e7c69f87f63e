use Rattle.user_propagator.proofs.Noticing.{shape_of}
use Rattle.user_propagator.proofs.notices.Notices.law_shape.Goals as goal

pub returns : goal.returns
returns c = rw (← c.self.view_is) (shape_of _ _ _ _ _ c.self.invariant)
