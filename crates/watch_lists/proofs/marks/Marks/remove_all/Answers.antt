use Rattle.std.proofs.Common.{◌<◌, length, sym, arith}
use Rattle.std.proofs.lemmas.Option.{get_or_from_slice_get}
use Rattle.watch_lists.proofs.Sweeping.{marks_more}
use Rattle.watch_lists.proofs.marks.Marks.remove_all.Goals as goal

pub each-preserved : goal.each-preserved
each-preserved c =
    let inv = c.each.invariant in
    let lt : c.each.k < length c.args.ids.now = omega (arith, c.each-test.true, c.len.ensures) in
    record {
      within = omega arith;
      less = λ k. marks_more c.args.self.now c.each.self c.remove.new.self c.args.ids.now c.each.k c.id.result k lt (sym (get_or_from_slice_get c.args.ids.now c.each.k c.id.result c.id.result c.id.ensures)) (inv.less k) (c.remove.ensures k);
    }
