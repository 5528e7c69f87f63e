use Rattle.std.proofs.Common.{arith, ◌∙◌, ◌+◌, length-set}
use Rattle.witness_stack.proofs.Counted.{raised_room, raised_fits, raised_sum, raised_step}
use Rattle.witness_stack.proofs.counts.raise.Goals as goal

pub index_mut-requires : goal.index_mut-requires
index_mut-requires c =
    omega (arith, c.code.ensures.value, raised_room c.loop-lit.counts.items c.args.counts.now.items c.args.lits.now c.loop-lit.lit-index c.lit-item.result c.loop-lit-test.true c.lit-item.is c.requires.room c.loop-lit.invariant.long)

pub overflow_add-index_mut : goal.overflow_add-index_mut
overflow_add-index_mut c =
    let room = raised_room c.loop-lit.counts.items c.args.counts.now.items c.args.lits.now c.loop-lit.lit-index c.lit-item.result c.loop-lit-test.true c.lit-item.is c.requires.room c.loop-lit.invariant.long in
    omega (
      arith,
      raised_fits c.loop-lit.counts.items c.args.counts.now.items c.args.lits.now c.loop-lit.lit-index c.lit-item.result c.loop-lit-test.true c.lit-item.is c.index_mut.result.now room
          (rw c.code.ensures.value at c.index_mut.ensures.value) c.loop-lit.invariant.sum c.requires.fits,
    )

pub loop-lit-preserved : goal.loop-lit-preserved
loop-lit-preserved c =
    let room = raised_room c.loop-lit.counts.items c.args.counts.now.items c.args.lits.now c.loop-lit.lit-index c.lit-item.result c.loop-lit-test.true c.lit-item.is c.requires.room c.loop-lit.invariant.long in
    rw c.code.ensures.value (record {
      counts = raised_step c.loop-lit.counts.items c.args.counts.now.items c.args.lits.now c.loop-lit.lit-index c.lit-item.result c.loop-lit-test.true c.lit-item.is _ room (rw c.code.ensures.value at c.index_mut.ensures.value) c.loop-lit.invariant.counts;
      sum = raised_sum c.loop-lit.counts.items c.args.counts.now.items c.args.lits.now c.loop-lit.lit-index c.lit-item.result c.loop-lit-test.true c.lit-item.is _ room (rw c.code.ensures.value at c.index_mut.ensures.value) c.loop-lit.invariant.sum;
      long = length-set c.loop-lit.counts.items c.lit-item.result (c.index_mut.result.now + 1) ∙ c.loop-lit.invariant.long;
    })
