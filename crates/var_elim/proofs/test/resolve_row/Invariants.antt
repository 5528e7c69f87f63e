use Rattle.std.proofs.Common.{take, map}
use Rattle.firm_terms.specs.Resolving.{row}
use Rattle.var_elim.specs.Testing.{lits_at, Passed}
use Rattle.var_elim.proofs.test.resolve_row.Given as goal

abbrev pub invariant-loop-right : goal.invariant-loop-right
invariant-loop-right l = Passed l.initial.work l.work (row l.lit (lits_at l.store l.left) (map (lits_at l.store) (take l.right-index l.rights))) l.right-index l.most l.rest
