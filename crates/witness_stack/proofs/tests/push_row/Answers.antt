use Rattle.std.proofs.Common.{arith}
use Rattle.witness_stack.proofs.Rows.{single_entry}
use Rattle.witness_stack.proofs.tests.push_row.Goals as goal

pub push-requires : goal.push-requires
push-requires c =
    rw c.as_slice.ensures.value (single_entry c.in_ok-lits.lits.items 0 c.index-witness.result.now c.in_ok-lits.ensures (omega arith) c.index-witness.ensures)
