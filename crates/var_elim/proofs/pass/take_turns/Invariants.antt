use Rattle.std.proofs.Common.{◌-◌}
use Rattle.rule_kernel.specs.Frozen.{is_frozen}
use Rattle.var_elim.proofs.Passing.{Passing}
use Rattle.var_elim.proofs.pass.take_turns.Given as goal

abbrev pub invariant-loop-queue : goal.invariant-loop-queue
invariant-loop-queue l = Passing (is_frozen l.frozen) l.fn.kernel l.kernel l.queue.members l.steps l.limit

abbrev pub decreases-loop-queue : goal.decreases-loop-queue
decreases-loop-queue l = l.limit - l.steps
