use Rattle.std.proofs.Common.{◌≡◌, take, map, false}
use Rattle.std.specs.List.{list_any}
use Rattle.firm_terms.specs.Resolving.{is_unit}
use Rattle.var_elim.specs.Testing.{lits_at}
use Rattle.var_elim.proofs.test.has_unit.Given as goal

abbrev pub invariant-loop-id : goal.invariant-loop-id
invariant-loop-id l = list_any is_unit (map (lits_at l.store) (take l.id-index l.ids)) ≡ false
