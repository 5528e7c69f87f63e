-- What a row of notifications comes to.
use Rattle.theory_bridge.proofs.Walking.{told_on, stands_on}
use Rattle.theory_bridge.proofs.bridge.Bridge.tell.Goals as goal

pub returns-clause-told : goal.returns-clause-told
returns-clause-told g c = told_on c.args.trail.now _ _ c.tell_all.ensures.on

pub returns-clause-stands : goal.returns-clause-stands
returns-clause-stands g c = stands_on c.args.trail.now _ _ c.requires.stands c.tell_all.ensures.on
