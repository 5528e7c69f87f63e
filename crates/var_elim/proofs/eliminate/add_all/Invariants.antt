use Rattle.std.proofs.Common.{take}
use Rattle.var_elim.proofs.Eliminating.{Adding}
use Rattle.var_elim.proofs.eliminate.add_all.Given as goal

abbrev pub invariant-loop-resolvent : goal.invariant-loop-resolvent
invariant-loop-resolvent l = Adding l.fn.kernel l.kernel (take l.resolvent-index l.resolvents)
