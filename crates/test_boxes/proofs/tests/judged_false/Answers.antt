use Rattle.test_boxes.proofs.Wholes.{whole_false}
use Rattle.test_boxes.proofs.tests.judged_false.Goals as goal

pub check-requires-clause-whole : goal.check-requires-clause-whole
check-requires-clause-whole c = rw c.in_ok-desk.ensures whole_false
