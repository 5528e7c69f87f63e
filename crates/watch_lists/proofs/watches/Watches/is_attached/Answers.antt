use Rattle.std.proofs.Common.{◌∙◌, sym}
use Rattle.watch_lists.proofs.Marking.{has-ids_of}
use Rattle.watch_lists.proofs.watches.Watches.is_attached.Goals as goal

pub returns : goal.returns
returns c = rw (← c.self.view_is) (c.holds.ensures ∙ sym (has-ids_of c.self.inside.attached c.args.id))
