use Rattle.std.proofs.Common.{◌≡◌, ◌++◌, ◌-◌, ◌+◌, take, drop, arith}
use Rattle.clause_store.proofs.Pieces.{copied_laid, copied_pieces, copied_close}
use Rattle.clause_store.proofs.spots.Spots.compact.Goals as goal

pub each-preserved : goal.each-preserved
each-preserved c =
    let w = c.each.cells.items in
    let old = c.self.inside.cells.items in
    let ps = c.self.inside.pieces.items in
    let p = c.index-piece.result.now in
    let e = c.each.invariant in
    let copied : c.extend_from_slice.new.self.items ≡ w ++ take (p.start + p.len - p.start) (drop p.start old) = rw c.deref.ensures.value at c.in_ok-extend_from_slice.ensures.items in
    record {
      copied = copied_pieces w _ old ps c.each.pieces.items _ c.each.id c.len-start.result p (omega arith) c.index-piece.ensures c.self.invariant e.laid e.copied e.close copied (omega arith) c.in_ok-push.ensures.items;
      laid = copied_laid w _ old ps c.each.pieces.items _ c.each.id c.len-start.result p (omega arith) c.index-piece.ensures c.self.invariant e.laid e.copied e.close copied (omega arith) c.in_ok-push.ensures.items;
      close = copied_close w _ old ps c.each.pieces.items _ c.each.id c.len-start.result p (omega arith) c.index-piece.ensures c.self.invariant e.laid e.copied e.close copied (omega arith) c.in_ok-push.ensures.items;
    }
