use Rattle.std.proofs.Common.{◌≤◌, ◌-◌, length}
use Rattle.watch_lists.specs.Visiting.{NoneFrom}
use Rattle.watch_lists.proofs.visits.next_at.Given as goal

abbrev pub invariant-loop-k : goal.invariant-loop-k
invariant-loop-k l = record {
  late : 2 ≤ l.k;
  none : NoneFrom l.trail.steps l.clause l.k;
}

abbrev pub decreases-loop-k : goal.decreases-loop-k
decreases-loop-k l = length l.clause - l.k
