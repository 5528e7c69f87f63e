use Rattle.subsume_pass.specs.Changing.{size}
use Rattle.subsume_pass.proofs.Passing.{Passing}
use Rattle.subsume_pass.proofs.pass.work_off.Given as goal

abbrev pub invariant-loop : goal.invariant-loop
invariant-loop l = Passing l.fn.kernel l.kernel l.steps l.limit

abbrev pub decreases-loop : goal.decreases-loop
decreases-loop l = size l.kernel.store
