-- The literals first, and then the levels behind them.
use Rattle.theory_bridge.proofs.Walking.{walks_on}
use Rattle.theory_bridge.proofs.bridge.Bridge.tell_all.Goals as goal

pub returns-clause-on : goal.returns-clause-on
returns-clause-on g c = walks_on c.args.trail.now _ _ _ c.in_ok-tell_literals.ensures.on c.tell_levels.ensures.on
