use Rattle.std.proofs.Common.{false}
use Rattle.user_propagator.proofs.Lawful.{stands_told}
use Rattle.group_propagator.specs.Meant.{meaning_of}
use Rattle.group_propagator.proofs.tests.Scene.imply.Goals as goal

pub reason-requires-clause-explained : goal.reason-requires-clause-explained
reason-requires-clause-explained c =
    let implied = rw c.in-Some.is at c.in_ok-lit.ensures.propagated in
    let said = rw c.in-Some.is at c.in_ok-lit.ensures.said in
    let desk = c.propagate.new.desk in
    stands_told (meaning_of c.notify_assigned.new.self) desk c.put.new.self c.in-Some.lit false c.put.ensures
    (c.notify_assigned.ensures.told desk (rw said.0 c.in_ok-lit.ensures.called.in_step) (rw said.0 implied.free) (rw said.0 implied.explained))
