use Rattle.std.proofs.Common.{sym}
use Rattle.group_propagator.proofs.Following.{told_more, told_other, told_first}
use Rattle.group_propagator.proofs.at_most_one.AtMostOneTheory.notify_assigned.Goals as goal
use Rattle.group_propagator.proofs.at_most_one.AtMostOneTheory.notify_assigned.Goals.{then-is_some-via-then-is_some, then-is_some-via-else-is_some+then-not-is_choice}

pub returns-then-is_some-clause-step : goal.returns-then-is_some-clause-step
returns-then-is_some-clause-step c b step free =
    elim c.then-is_some.branch [
      | then-is_some-via-then-is_some w ↦ told_more c.args.self.now.group.members c.args.self.now.chosen c.args.self.now.passed c.args.self.now.level b c.args.lit c.args.decision (sym w.if-is_some.ensures) step
      | then-is_some-via-else-is_some+then-not-is_choice w ↦ told_other c.args.self.now.group.members c.args.self.now.chosen c.args.self.now.passed c.args.self.now.level b c.args.lit c.args.decision (sym w.if-not-is_choice.ensures) step
    ]

pub returns-clause-step : goal.returns-clause-step
returns-clause-step c b step free =
    told_first c.args.self.now.group.members c.args.self.now.chosen c.args.self.now.passed c.args.self.now.level b c.args.lit c.args.decision (sym c.if-is_some.ensures) (sym c.if-not-is_choice.ensures) step free
