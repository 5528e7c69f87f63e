use Rattle.std.proofs.Common.{arith}
use Rattle.sat_terms.proofs.Members.{has_at}
use Rattle.card_propagator.proofs.queue.put_each.Goals as goal

pub put-requires : goal.put-requires
put-requires c =
    let b = c.requires c.id-item.result (has_at c.args.ids.now c.loop-id.id-index c.id-item.result c.loop-id-test.true c.id-item.is) in
    let r = c.loop-id.invariant.room in
    omega arith
