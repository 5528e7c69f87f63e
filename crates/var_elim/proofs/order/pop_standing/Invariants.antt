use Rattle.std.proofs.Common.{length}
use Rattle.var_elim.proofs.Choosing.{Popping}
use Rattle.var_elim.proofs.order.pop_standing.Given as goal

abbrev pub invariant-loop-var : goal.invariant-loop-var
invariant-loop-var l = Popping l.fn.kernel l.kernel l.fn.queue.members l.queue.members

abbrev pub decreases-loop-var : goal.decreases-loop-var
decreases-loop-var l = length l.queue.members
