use Rattle.std.proofs.Common.{true}
use Rattle.clause_store.specs.FirmCount.{firm_count}
use Rattle.var_elim.proofs.Eliminating.{Parking}
use Rattle.var_elim.proofs.eliminate.park_all.Given as goal

abbrev pub invariant-loop-id : goal.invariant-loop-id
invariant-loop-id l = Parking l.fn.kernel l.kernel l.lit

abbrev pub decreases-loop-id : goal.decreases-loop-id
decreases-loop-id l = firm_count (λ c. true) l.kernel.store
