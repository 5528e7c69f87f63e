use Rattle.card_propagator.proofs.Boards.{whole_kept}
use Rattle.card_propagator.proofs.tests.judge_kept.Goals as goal

pub check-requires-clause-whole : goal.check-requires-clause-whole
check-requires-clause-whole c = rw c.requires whole_kept
