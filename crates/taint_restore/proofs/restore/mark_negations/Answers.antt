use Rattle.std.proofs.Common.{arith}
use Rattle.taint_restore.proofs.Scanning.{mark_step}
use Rattle.taint_restore.proofs.restore.mark_negations.Goals as goal

pub loop-lit-preserved : goal.loop-lit-preserved
loop-lit-preserved c =
    mark_step c.args.lits.now c.loop-lit.lit-index c.lit-item.result c.args.marks.now c.loop-lit.marks c.mark.new.self (omega arith) c.lit-item.is c.loop-lit.invariant
    (rw c.neg.ensures at c.in_ok-mark.ensures.ok)
