use Rattle.std.proofs.Common.{take, map, length, ◌*◌}
use Rattle.firm_terms.specs.Resolving.{resolvents}
use Rattle.var_elim.specs.Testing.{lits_at, Passed}
use Rattle.var_elim.proofs.test.resolve_all.Given as goal

abbrev pub invariant-loop-left : goal.invariant-loop-left
invariant-loop-left l = Passed l.initial.work l.work (resolvents l.lit (map (lits_at l.store) (take l.left-index l.lefts)) (map (lits_at l.store) l.rights)) (l.left-index * length l.rights) l.most l.rest
