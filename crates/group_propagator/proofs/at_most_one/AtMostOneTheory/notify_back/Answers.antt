use Rattle.group_propagator.proofs.Following.{gone_back}
use Rattle.group_propagator.proofs.at_most_one.AtMostOneTheory.notify_back.Goals as goal

pub returns-clause-step : goal.returns-clause-step
returns-clause-step c b step can =
    gone_back c.args.self.now.group.members c.args.self.now.chosen c.kept-self.result c.args.self.now.passed c.args.self.now.level b c.args.level c.kept-self.ensures step
