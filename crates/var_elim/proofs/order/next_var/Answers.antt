use Rattle.rule_kernel.specs.Frozen.{is_frozen}
use Rattle.var_elim.proofs.Choosing.{idle_both}
use Rattle.var_elim.proofs.order.next_var.Goals as goal

pub returns-clause-idle : goal.returns-clause-idle
returns-clause-idle c =
    idle_both (is_frozen c.args.frozen.now) c.args.kernel.now c.pop_standing.new.kernel c.pop_standing-2.new.kernel c.args.queue.now.members c.collect.new.queue.members c.pop_standing.ensures.idle c.in_ok-collect.ensures.queued c.pop_standing-2.ensures.idle
