use Rattle.card_propagator.proofs.Boards.{whole_broken}
use Rattle.card_propagator.proofs.tests.judge_broken.Goals as goal

pub check-requires-clause-whole : goal.check-requires-clause-whole
check-requires-clause-whole c = rw c.requires whole_broken
