use Rattle.std.proofs.Common.{arith}
use Rattle.watch_lists.proofs.Growing.{grown_none, grown_more}
use Rattle.watch_lists.proofs.Shortages.{fixed_grown, met_grown, met_more, fixed_more}
use Rattle.watch_lists.proofs.shorts.pass_short.Goals as goal
use Rattle.watch_lists.proofs.shorts.pass_short.Goals.{then-k-fixed+then-is_fixed, else-k-fixed}

pub each-init : goal.each-init
each-init c = record {
  grown = grown_none _ _ _;
  fixed = c.requires.fixed;
  met = λ k lt. (c.requires.fixed.at_root k lt).true_in;
  order = omega arith;
}

pub returns-then-is_false-clause-grown : goal.returns-then-is_false-clause-grown
returns-then-is_false-clause-grown c = grown_more _ _ _ _ _ c.each.invariant.grown c.look_at-is_false.ensures.grown

pub returns-then-is_false-clause-fixed : goal.returns-then-is_false-clause-fixed
returns-then-is_false-clause-fixed c = fixed_grown _ _ _ _ _ _ c.look_at-is_false.ensures.grown c.each.invariant.fixed

pub each-preserved : goal.each-preserved
each-preserved c =
    let g = c.look_at-is_false.ensures.grown in
    let f = fixed_grown _ _ _ _ _ _ g c.each.invariant.fixed in
    let order = c.each.invariant.order in
    record {
      grown = grown_more _ _ _ _ _ c.each.invariant.grown g;
      fixed =
          elim c.if-k-fixed.branch [
            | then-k-fixed+then-is_fixed w ↦ rw w.fixed-is (fixed_more _ _ c.each.k _ c.index-short-k.result _ c.each-test.true c.index-short-k.is w.if-k-fixed.true f (w.is_fixed.ensures w.if-is_fixed.true))
            | else-k-fixed w ↦ rw w.fixed-is f
          ];
      met = met_more _ _ c.each.k c.index-short-k.result _ c.each-test.true c.index-short-k.is (met_grown _ _ _ _ _ _ g c.each.invariant.met) (c.look_at-is_false.ensures.met c.if-is_false.false);
      order =
          elim c.if-k-fixed.branch [
            | then-k-fixed+then-is_fixed w ↦ omega (arith, w.fixed-is, order)
            | else-k-fixed w ↦ omega (arith, w.fixed-is, order)
          ];
    }
