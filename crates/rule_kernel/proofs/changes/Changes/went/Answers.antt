use Rattle.rule_kernel.proofs.Marking.{room_neg}
use Rattle.rule_kernel.proofs.changes.Changes.went.Goals as goal

pub mark-requires-clause-lit : goal.mark-requires-clause-lit
mark-requires-clause-lit c =
    rw (c.loop-lit.invariant.room, c.neg.ensures) (room_neg c.args.lits.now c.loop-lit.lit-index c.lit-item.result _ c.requires c.loop-lit-test.true c.lit-item.is)
