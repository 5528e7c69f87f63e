use Rattle.std.proofs.Common.{◌∙◌, ap}
use Rattle.sat_terms.specs.Literal.{pos_lit}
use Rattle.witness_stack.proofs.Rows.{row_none, row_push}
use Rattle.witness_stack.proofs.tests.row.Goals as goal

pub loop-n-init : goal.loop-n-init
loop-n-init c = rw c.new-lits.ensures.items (row_none _)

pub loop-n-preserved : goal.loop-n-preserved
loop-n-preserved c = rw c.in_ok-push-in-Some.ensures.items (row_push _ _ _ c.loop-n.invariant (c.positive.ensures ∙ ap pos_lit c.in-Some.ensures.value))
