use Rattle.std.proofs.Common.{◌≡◌, false, Some, sym}
use Rattle.user_propagator.proofs.Lawful.{stands_told}
use Rattle.card_propagator.specs.Meant.{meaning_of}
use Rattle.card_propagator.proofs.tests.Scene.imply.Goals as goal

pub reason-requires-clause-explained : goal.reason-requires-clause-explained
reason-requires-clause-explained c =
    let implied = rw c.in-Some.is at c.in_ok-lit.ensures.propagated in
    let left = rw c.in-Some.is at c.in_ok-lit.ensures.left in
    let desk = c.propagate.new.desk in
    stands_told (meaning_of c.notify_assigned.new.self) desk c.put.new.self c.in-Some.lit false c.put.ensures
    (c.notify_assigned.ensures.told desk (rw left c.in_ok-lit.ensures.called.in_step) (rw left implied.free) (rw left implied.explained))
