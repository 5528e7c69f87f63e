use Rattle.std.proofs.Common.{arith}
use Rattle.var_elim.proofs.Eliminating.{adding_none, adding_more, next_implied, next_normal}
use Rattle.var_elim.proofs.eliminate.add_all.Goals as goal

pub loop-resolvent-init : goal.loop-resolvent-init
loop-resolvent-init c = adding_none c.args.kernel.now

pub add_implied-requires-clause-normal : goal.add_implied-requires-clause-normal
add_implied-requires-clause-normal c =
    rw c.as_slice.ensures (next_normal c.args.kernel.now c.loop-resolvent.kernel c.args.resolvents.now c.loop-resolvent.resolvent-index c.resolvent-item.result c.requires (omega arith) c.resolvent-item.is c.loop-resolvent.invariant)

pub add_implied-requires-clause-implied : goal.add_implied-requires-clause-implied
add_implied-requires-clause-implied c =
    rw c.as_slice.ensures (next_implied c.args.kernel.now c.loop-resolvent.kernel c.args.resolvents.now c.loop-resolvent.resolvent-index c.resolvent-item.result c.requires (omega arith) c.resolvent-item.is c.loop-resolvent.invariant)

pub loop-resolvent-preserved : goal.loop-resolvent-preserved
loop-resolvent-preserved c =
    adding_more c.args.kernel.now c.loop-resolvent.kernel c.args.resolvents.now c.loop-resolvent.resolvent-index c.resolvent-item.result c.requires (omega arith) c.resolvent-item.is c.loop-resolvent.invariant c.add_implied.new.self _
    (rw c.as_slice.ensures at c.in_ok-add_implied.ensures.ok)
