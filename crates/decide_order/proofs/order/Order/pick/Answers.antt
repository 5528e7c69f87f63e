use Rattle.decide_order.proofs.Picks.{picked, in_phase_var}
use Rattle.decide_order.proofs.order.Order.pick.Goals as goal

pub returns-clause-some : goal.returns-clause-some
returns-clause-some c = picked c.args.self.now c.any_open.new.self c.args.trail.now c.in_ok-var.var c.in_phase.result c.in_ok-var.ensures.some.0 c.in_ok-var.ensures.some.1 c.any_open.ensures.same c.in_phase.ensures

pub returns-clause-latest : goal.returns-clause-latest
returns-clause-latest c = λ focused follows. rw (in_phase_var c.any_open.new.self c.in_ok-var.var c.in_phase.result c.in_phase.ensures) (c.in_ok-var.ensures.latest focused follows)
