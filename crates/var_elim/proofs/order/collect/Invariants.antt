use Rattle.var_elim.proofs.Choosing.{Filling}
use Rattle.var_elim.proofs.order.collect.Given as goal

abbrev pub invariant-loop-ranked : goal.invariant-loop-ranked
invariant-loop-ranked l = Filling l.ranked-items l.queue.members l.ranked-index
