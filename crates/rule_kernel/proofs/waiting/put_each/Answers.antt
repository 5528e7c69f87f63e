use Rattle.std.proofs.Common.{arith}
use Rattle.witness_stack.proofs.Counted.{has_here}
use Rattle.rule_kernel.proofs.waiting.put_each.Goals as goal

pub put-requires : goal.put-requires
put-requires c =
    let b = c.requires c.id-item.result (has_here c.args.ids.now c.loop-id.id-index c.id-item.result c.loop-id-test.true c.id-item.is) in
    let r = c.loop-id.invariant.room in
    omega arith
