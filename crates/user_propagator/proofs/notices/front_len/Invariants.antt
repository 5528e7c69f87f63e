use Rattle.std.proofs.Common.{ℕ, ◌≤◌, ◌<◌, length}
use Rattle.user_propagator.specs.Board.{entry}
use Rattle.user_propagator.proofs.notices.front_len.Given as goal

abbrev pub invariant-loop-end : goal.invariant-loop-end
invariant-loop-end l = (l.end ≤ length l.seen) × ((k : ℕ) → l.end ≤ k → k < length l.seen → l.level < (entry l.seen k).level)

abbrev pub decreases-loop-end : goal.decreases-loop-end
decreases-loop-end l = l.end
