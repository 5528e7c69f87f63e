use Rattle.std.proofs.Common.{◌<◌, length, sym, ◌∙◌, arith}
use Rattle.std.proofs.lemmas.Option.{get_or_from_slice_get}
use Rattle.watch_lists.proofs.Sweeping.{emptied_more}
use Rattle.watch_lists.proofs.copies.Copies.remove_all.Goals as goal

pub each-preserved : goal.each-preserved
each-preserved c =
    let inv = c.each.invariant in
    let lt : c.each.k < length c.args.ids.now = omega (arith, c.each-test.true, c.len.ensures) in
    record {
      within = omega arith;
      emptied = rw c.remove.ensures (emptied_more c.args.ids.now c.args.self.now c.each.self c.each.k c.index.result lt (c.index.ensures ∙ sym (get_or_from_slice_get c.args.ids.now c.each.k c.id.result c.index.result c.id.ensures)) inv.emptied);
    }
