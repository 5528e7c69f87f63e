use Rattle.std.proofs.Common.{◌≢◌, ◌<◌, ◌-◌, length}
use Rattle.watch_lists.proofs.waiting.best_at.Given as goal

abbrev pub invariant-loop-k : goal.invariant-loop-k
invariant-loop-k l = (l.best < length l.clause) × (l.best ≢ l.skip)

abbrev pub decreases-loop-k : goal.decreases-loop-k
decreases-loop-k l = length l.clause - l.k
