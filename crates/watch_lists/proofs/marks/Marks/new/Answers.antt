use Rattle.watch_lists.proofs.Marking.{none_marked}
use Rattle.watch_lists.proofs.marks.Marks.new.Goals as goal

pub returns : goal.returns
returns c = none_marked _ c.new.ensures
