use Rattle.group_propagator.proofs.Saying.{new_for}
use Rattle.group_propagator.proofs.at_most_one.AtMostOne.new.Goals as goal

pub returns : goal.returns
returns c = new_for _ _ c.in_ok-collect.ensures
