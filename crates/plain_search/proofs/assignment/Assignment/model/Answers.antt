use Rattle.std.proofs.Common.{arith}
use Rattle.plain_search.proofs.Values.{model_agrees}
use Rattle.plain_search.proofs.assignment.Assignment.model.Goals as goal

pub returns-clause-agrees : goal.returns-clause-agrees
returns-clause-agrees c = rw (← c.self.view_is) (model_agrees c.self.invariant.mirrors c.loop-at.model.items (λ k h. c.loop-at.invariant.same k (omega arith)))
