use Rattle.std.proofs.Common.{◌<◌, ◌≤◌, ◌-◌, ℕ, length, get_or}
use Rattle.sat_terms.specs.Literal.{var_of}
use Rattle.watch_lists.proofs.tests.are_rising.Given as goal

abbrev pub invariant-each : goal.invariant-each
invariant-each l = record {
  within : l.k ≤ length l.lits;
  low : (i d : ℕ) → i < l.k → var_of (get_or l.lits i d) ≤ l.last;
  named : (i d : ℕ) → i < l.k → (1 ≤ var_of (get_or l.lits i d)) × (var_of (get_or l.lits i d) ≤ 600);
  rising : (i j d : ℕ) → i < j → j < l.k → var_of (get_or l.lits i d) < var_of (get_or l.lits j d);
}

abbrev pub decreases-each : goal.decreases-each
decreases-each l = length l.lits - l.k
