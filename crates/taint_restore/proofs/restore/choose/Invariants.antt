use Rattle.taint_restore.proofs.Scanning.{Scanned}
use Rattle.taint_restore.proofs.restore.choose.Given as goal

abbrev pub invariant-loop-k : goal.invariant-loop-k
invariant-loop-k l = Scanned l.marks l.chosen.items l.lits l.stack l.k
