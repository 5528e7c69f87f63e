use Rattle.watch_lists.proofs.Pieces.{pieces_removed}
use Rattle.watch_lists.proofs.copies.Copies.remove.Goals as goal

pub returns-then-id-len : goal.returns-then-id-len
returns-then-id-len c = rw (← c.self.view_is) (pieces_removed c.self.inside.words.items c.self.inside.places.items c.args.id)
