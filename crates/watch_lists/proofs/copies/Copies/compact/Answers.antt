use Rattle.std.proofs.Common.{◌<◌, length, ◌∙◌, arith}
use Rattle.std.proofs.lemmas.List.{get_or_default}
use Rattle.watch_lists.proofs.Pieces.{no_place, compacted_more}
use Rattle.watch_lists.proofs.copies.Copies.compact.Goals as goal

pub each-preserved : goal.each-preserved
each-preserved c =
    let inv = c.each.invariant in
    let lt : c.each.id < length c.self.inside.places.items = omega (arith, c.each-test.true, c.len-in-each.ensures, c.self.inside.places.ok.0) in
    compacted_more _ _ _ _ _ _ c.each.id c.index-place.result.now inv lt (c.index-place.ensures ∙ get_or_default _ c.each.id _ no_place lt) c.in_ok-copy_piece.ensures.laid (rw c.deref.ensures.value at c.in_ok-copy_piece.ensures.pieces) c.in_ok-copy_piece.ensures.words c.in_ok-copy_piece.ensures.live
