use Rattle.subsume_pass.specs.Trying.{waits}
use Rattle.subsume_pass.proofs.Passing.{Pausing}
use Rattle.subsume_pass.proofs.pass.one_round.Given as goal

abbrev pub invariant-loop-kernel : goal.invariant-loop-kernel
invariant-loop-kernel l = Pausing l.fn.kernel l.kernel l.fn.steps l.steps l.limit

abbrev pub decreases-loop-kernel : goal.decreases-loop-kernel
decreases-loop-kernel l = waits l.kernel.waiting
