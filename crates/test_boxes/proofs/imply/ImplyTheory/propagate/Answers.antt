use Rattle.test_boxes.proofs.Pairs.{imply_implied}
use Rattle.test_boxes.proofs.imply.ImplyTheory.propagate.Goals as goal

pub returns-then-is_due-clause-propagated : goal.returns-then-is_due-clause-propagated
returns-then-is_due-clause-propagated c = imply_implied _ _ _ _ (c.is_due.ensures c.if-is_due.true)
