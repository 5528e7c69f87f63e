-- The literal at the place was told now, or need not be.
use Rattle.std.proofs.Common.{sym}
use Rattle.theory_bridge.proofs.Walking.{told_as, skip_as}
use Rattle.theory_bridge.proofs.bridge.Bridge.tell_due.Goals as goal

pub returns-then-not-is_due-clause-walks : goal.returns-then-not-is_due-clause-walks
returns-then-not-is_due-clause-walks g c = skip_as c.args.trail.now c.args.place _ c.law_shape.ensures c.law_shape-2.ensures c.requires.walks c.requires.inside c.requires.level c.step_at-step.result c.step_at-step.ensures (sym c.if-not-is_due.ensures)

pub returns-clause-on : goal.returns-clause-on
returns-clause-on g c = (told_as c.args.trail.now c.args.place _ c.law_shape.ensures c.law_shape-2.ensures c.requires.walks c.requires.inside c.requires.level c.step_at-step.result c.step_at-step.ensures c.is_decision.result _ (sym c.if-not-is_due.ensures) c.is_decision.ensures c.in_ok-tell_literal.ensures.told).0

pub returns-clause-walks : goal.returns-clause-walks
returns-clause-walks g c = (told_as c.args.trail.now c.args.place _ c.law_shape.ensures c.law_shape-2.ensures c.requires.walks c.requires.inside c.requires.level c.step_at-step.result c.step_at-step.ensures c.is_decision.result _ (sym c.if-not-is_due.ensures) c.is_decision.ensures c.in_ok-tell_literal.ensures.told).1
