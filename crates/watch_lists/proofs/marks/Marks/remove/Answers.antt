use Rattle.std.proofs.Common.{◌≡◌}
use Rattle.watch_lists.proofs.Marking.{taken_out}
use Rattle.watch_lists.proofs.marks.Marks.remove.Goals as goal

pub returns : goal.returns
returns c = rw (← c.self.view_is) (taken_out _ _ c.args.id c.take_out.ensures)
