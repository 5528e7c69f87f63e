use Rattle.group_propagator.proofs.Boards.{whole_true}
use Rattle.group_propagator.proofs.tests.Scene.judge_two_true.Goals as goal

pub check-requires-clause-whole : goal.check-requires-clause-whole
check-requires-clause-whole c = rw c.requires whole_true
