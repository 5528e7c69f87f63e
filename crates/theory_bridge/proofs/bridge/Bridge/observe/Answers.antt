-- At the root a variable more is no step behind.
use Rattle.std.proofs.Common.{sym, subst}
use Rattle.user_propagator.specs.Board.{Board}
use Rattle.theory_bridge.specs.Following.{Follows}
use Rattle.theory_bridge.proofs.Following.{follows_observed}
use Rattle.theory_bridge.proofs.bridge.Bridge.observe.Goals as goal

pub returns-clause-follows : goal.returns-clause-follows
returns-clause-follows g c f = subst (λ (b : Board). Follows b c.args.trail.now) (sym c.in_ok-watch.ensures.ok) (follows_observed c.args.self.now.desk c.args.trail.now c.args.var c.law_shape.ensures c.requires.root f)
