use Rattle.std.proofs.Common.{arith, sym, ◌∙◌, ◌-◌}
use Rattle.witness_stack.proofs.Counted.{lowered_at, lowered_fits, lowered_sum, lowered_step}
use Rattle.witness_stack.proofs.counts.lower.Goals as goal

pub index_mut-requires : goal.index_mut-requires
index_mut-requires c =
    omega (arith, c.code.ensures.value, lowered_at c.loop-lit.counts.items c.args.counts.now.items c.args.lits.now c.loop-lit.lit-index c.lit-item.result c.loop-lit-test.true c.lit-item.is c.requires c.loop-lit.invariant.counts)

pub overflow_sub-index_mut : goal.overflow_sub-index_mut
overflow_sub-index_mut c =
    lowered_fits c.loop-lit.counts.items c.args.counts.now.items c.args.lits.now c.loop-lit.lit-index c.lit-item.result c.loop-lit-test.true c.lit-item.is _
    (rw c.code.ensures.value at c.index_mut.ensures.value) c.requires c.loop-lit.invariant.counts

pub loop-lit-preserved : goal.loop-lit-preserved
loop-lit-preserved c =
    let at = lowered_at c.loop-lit.counts.items c.args.counts.now.items c.args.lits.now c.loop-lit.lit-index c.lit-item.result c.loop-lit-test.true c.lit-item.is c.requires c.loop-lit.invariant.counts in
    let some = lowered_fits c.loop-lit.counts.items c.args.counts.now.items c.args.lits.now c.loop-lit.lit-index c.lit-item.result c.loop-lit-test.true c.lit-item.is c.index_mut.result.now
    (rw c.code.ensures.value at c.index_mut.ensures.value) c.requires c.loop-lit.invariant.counts in
    rw c.code.ensures.value (record {
      counts = lowered_step c.loop-lit.counts.items c.args.counts.now.items c.args.lits.now c.loop-lit.lit-index c.lit-item.result c.loop-lit-test.true c.lit-item.is _ (rw c.code.ensures.value at c.index_mut.ensures.value) c.requires c.loop-lit.invariant.counts;
      sum = lowered_sum c.loop-lit.counts.items c.args.counts.now.items c.args.lits.now c.loop-lit.lit-index c.lit-item.result c.loop-lit-test.true c.lit-item.is _ at (rw c.code.ensures.value at c.index_mut.ensures.value) some c.loop-lit.invariant.sum;
    })
