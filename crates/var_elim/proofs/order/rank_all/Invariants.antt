use Rattle.rule_kernel.specs.Frozen.{is_frozen}
use Rattle.var_elim.proofs.Choosing.{Ranking}
use Rattle.var_elim.proofs.order.rank_all.Given as goal

abbrev pub invariant-loop-var : goal.invariant-loop-var
invariant-loop-var l = Ranking (is_frozen l.frozen) l.var-items l.all.items l.var-index
