use Rattle.std.proofs.Common.{arith}
use Rattle.rule_kernel.proofs.Examples.{witnesses_alone}
use Rattle.rule_kernel.proofs.tests.park_row.Goals as goal

pub park-requires-clause-witnessed : goal.park-requires-clause-witnessed
park-requires-clause-witnessed c =
    witnesses_alone _ _ _ _ c.in_ok-lits.lits.items c.requires (rw c.as_slice-2.ensures.value at c.in_ok-id.ensures.ok.store) (omega arith) c.index-witness.ensures
