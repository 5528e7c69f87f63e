use Rattle.std.proofs.Common.{arith}
use Rattle.taint_restore.proofs.Scanning.{scan_step, scan_end}
use Rattle.taint_restore.proofs.restore.choose.Goals as goal

pub loop-k-preserved : goal.loop-k-preserved
loop-k-preserved c =
    scan_step _ _ _ _ _ c.loop-k.invariant _ _ (omega arith)
    (rw c.witness.ensures at c.in_ok-chosen-2.ensures.chosen)
    (rw c.clause.ensures at c.in_ok-chosen-2.ensures.yes)
    c.in_ok-chosen-2.ensures.no

pub returns-clause-needed : goal.returns-clause-needed
returns-clause-needed c = scan_end _ _ _ _ _ c.loop-k.invariant (omega arith)
