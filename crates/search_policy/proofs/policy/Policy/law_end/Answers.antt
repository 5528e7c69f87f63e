use Rattle.search_policy.proofs.Halves.{left_none}
use Rattle.search_policy.proofs.policy.Policy.law_end.Goals as goal

pub returns : goal.returns
returns c = rw (← c.self.view_is) (left_none _ _ _ _ c.self.invariant.phases c.self.invariant.long c.self.invariant.short)
