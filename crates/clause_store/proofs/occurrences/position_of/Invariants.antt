use Rattle.std.proofs.Common.{ℕ, ◌<◌, ◌≤◌, ◌-◌, length, get_or}
use Rattle.clause_store.proofs.occurrences.position_of.Given as goal

abbrev pub invariant-loop-low : goal.invariant-loop-low
invariant-loop-low l = record {
  order : l.low ≤ l.high;
  within : l.high ≤ length l.lits;
  below : (k : ℕ) → k < l.low → get_or l.lits k 0 < l.lit;
  above : (k : ℕ) → l.high ≤ k → k < length l.lits → l.lit ≤ get_or l.lits k 0;
}

abbrev pub decreases-loop-low : goal.decreases-loop-low
decreases-loop-low l = l.high - l.low
