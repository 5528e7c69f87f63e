use Rattle.witness_stack.proofs.Rows.{IsRow}
use Rattle.rule_kernel.proofs.tests.row.Given as goal

abbrev pub invariant-loop-n : goal.invariant-loop-n
invariant-loop-n l = IsRow l.lits.items l.n
