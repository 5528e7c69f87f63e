use Rattle.std.proofs.Common.{length, arith}
use Rattle.watch_lists.proofs.Pieces.{copied_piece}
use Rattle.watch_lists.proofs.copies.copy_piece.Goals as goal

pub returns-clause-pieces : goal.returns-clause-pieces
returns-clause-pieces c = copied_piece _ _ c.args.from.now _ _ c.args.place c.len-start.result c.requires.laid c.requires.within c.in_ok-extend_from_slice.ensures.items (omega (arith, c.len-start.ensures)) c.in_ok-push.ensures.items
