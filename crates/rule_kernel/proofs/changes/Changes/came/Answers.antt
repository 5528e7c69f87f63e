use Rattle.rule_kernel.proofs.Marking.{room_lit}
use Rattle.rule_kernel.proofs.changes.Changes.came.Goals as goal

pub mark-requires-clause-lit : goal.mark-requires-clause-lit
mark-requires-clause-lit c =
    rw c.loop-lit.invariant.room (room_lit c.args.lits.now c.loop-lit.lit-index c.lit-item.result _ c.requires c.loop-lit-test.true c.lit-item.is)
