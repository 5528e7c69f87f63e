-- Each level that is told leads on.
use Rattle.std.proofs.Common.{arith}
use Rattle.theory_bridge.proofs.Walking.{raising_on, raising_out}
use Rattle.theory_bridge.proofs.bridge.Bridge.tell_levels.Goals as goal

pub levels-preserved : goal.levels-preserved
levels-preserved g c = raising_on c.args.trail.now c.args.level _ _ _ c.levels.invariant (let less = c.levels-test.true in omega arith) c.requires.within c.in_ok-tell_level.ensures.told c.in_ok-tell_level.ensures.ended

pub returns-in_err-tell_level-clause-on : goal.returns-in_err-tell_level-clause-on
returns-in_err-tell_level-clause-on g c = raising_out c.args.trail.now c.args.level _ _ _ c.levels.invariant c.in_err-tell_level.ensures.out
