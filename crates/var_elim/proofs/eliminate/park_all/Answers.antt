use Rattle.var_elim.proofs.Settling.{settled_witness}
use Rattle.var_elim.proofs.Eliminating.{parking_none, parking_more, parking_fewer}
use Rattle.var_elim.proofs.eliminate.park_all.Goals as goal

pub loop-id-init : goal.loop-id-init
loop-id-init c = parking_none c.args.kernel.now c.args.lit c.requires

pub park-requires-clause-witnessed : goal.park-requires-clause-witnessed
park-requires-clause-witnessed c = settled_witness c.loop-id.kernel.store c.args.lit c.in-Some.id (rw c.store.ensures at c.in-Some.ensures.some) c.loop-id.invariant.settled

pub loop-id-smaller : goal.loop-id-smaller
loop-id-smaller c = parking_fewer c.args.kernel.now c.loop-id.kernel c.park.new.self c.args.lit c.in-Some.id c.loop-id.invariant (rw c.store.ensures at c.in-Some.ensures.some) c.in_ok-park.ensures.ok

pub loop-id-preserved : goal.loop-id-preserved
loop-id-preserved c = parking_more c.args.kernel.now c.loop-id.kernel c.park.new.self c.args.lit c.in-Some.id c.loop-id.invariant (rw c.store.ensures at c.in-Some.ensures.some) c.in_ok-park.ensures.ok
