use Rattle.std.proofs.Common.{refl}
use Rattle.user_propagator.specs.Board.{trail_of}
use Rattle.group_propagator.proofs.Saying.{some_chosen, given}
use Rattle.group_propagator.proofs.Following.{is_led}
use Rattle.group_propagator.proofs.at_most_one.AtMostOneTheory.reason.Goals as goal

pub unreachable-requires : goal.unreachable-requires
unreachable-requires c =
    let self = c.args.self.now in
    some_chosen self.group.members self.chosen self.passed self.level self.asked c.args._desk.now c.requires.explained.0 c.args.lit c.in_default.is c.requires.step c.requires.explained.1

pub returns-clause-given : goal.returns-clause-given
returns-clause-given c k stands =
    let self = c.args.self.now in
    given self.group.members c.in-Some.chosen self.passed self.level c.args._desk.now (is_led self.group.members c.in-Some.chosen self.passed self.level (trail_of c.args._desk.now) (rw c.in-Some.is at c.requires.step)) self.chosen k c.args.lit self.asked c.next-self.result c.push-2.new.self stands (rw (c.in_ok-push-2.ensures.ok, c.in_ok-push.ensures.ok, c.requires.empty, c.neg.ensures) refl)
