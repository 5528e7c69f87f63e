-- Each place leads on.
use Rattle.theory_bridge.proofs.Walking.{walking_on, walking_out}
use Rattle.theory_bridge.proofs.bridge.Bridge.tell_literals.Goals as goal

pub returns-in_err-tell_place-clause-on : goal.returns-in_err-tell_place-clause-on
returns-in_err-tell_place-clause-on g c = walking_out c.args.trail.now c.walk.place _ _ _ c.walk.invariant c.in_err-tell_place.ensures.on

pub walk-preserved : goal.walk-preserved
walk-preserved g c = walking_on c.args.trail.now c.walk.place _ _ _ c.walk.invariant c.in_ok-tell_place.ensures.on c.in_ok-tell_place.ensures.walks c.in_ok-tell_place.ensures.ended
