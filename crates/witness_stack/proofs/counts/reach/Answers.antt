use Rattle.std.proofs.Common.{arith, sym, ◌∙◌, ◌-◌}
use Rattle.witness_stack.proofs.Counted.{room_more}
use Rattle.witness_stack.proofs.counts.reach.Goals as goal

pub loop-lit-preserved : goal.loop-lit-preserved
loop-lit-preserved c = record {
  same = λ x. c.reach_one.ensures.same x ∙ c.loop-lit.invariant.same x;
  sum = c.reach_one.ensures.sum ∙ c.loop-lit.invariant.sum;
  long = room_more c.args.lits.now c.loop-lit.lit-index c.lit-item.result _ _ c.loop-lit-test.true c.lit-item.is c.reach_one.ensures.grows c.in_ok-reach_one.ensures.long c.loop-lit.invariant.long;
}
