use Rattle.std.proofs.Common.{length, ◌-◌, ◌+◌}
use Rattle.blocked_clauses.proofs.Clashing.{IsClear}
use Rattle.blocked_clauses.proofs.clash.clash.Given as goal

abbrev pub invariant-loop-i : goal.invariant-loop-i
invariant-loop-i l = IsClear l.lit l.first l.second l.i l.j

abbrev pub decreases-loop-i : goal.decreases-loop-i
decreases-loop-i l = (length l.first - l.i) + (length l.second - l.j)
