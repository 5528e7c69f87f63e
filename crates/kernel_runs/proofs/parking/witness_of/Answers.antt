use Rattle.std.proofs.Common.{◌-◌, length, arith}
use Rattle.witness_stack.proofs.Counted.{has_here}
use Rattle.kernel_runs.proofs.Pure.{witnesses_pure}
use Rattle.kernel_runs.proofs.parking.witness_of.Goals as goal

pub returns-clause-witnessed : goal.returns-clause-witnessed
returns-clause-witnessed c =
    let lits = c.get-lits.result.now in
    let last = has_here lits (length lits - 1) c.index-lits-lits.result (grind arith) c.index-lits-lits.is in
    witnesses_pure _ _ _ _ _ c.neg.ensures c.occ.ensures (grind arith) (rw c.get-lits.ensures.value at last)
