use Rattle.std.proofs.Common.{◌≡◌, ◌<◌, ℕ, true, length, take}
use Rattle.sat_terms.specs.Literal.{has}
use Rattle.witness_stack.specs.Counts.{count_at, count_sum}
use Rattle.witness_stack.proofs.counts.reach.Given as goal

abbrev pub invariant-loop-lit : goal.invariant-loop-lit
invariant-loop-lit l = record {
  same : (x : ℕ) → count_at l.counts.items x ≡ count_at l.initial.counts.items x;
  sum : count_sum l.counts.items ≡ count_sum l.initial.counts.items;
  long : (x : ℕ) → has (take l.lit-index l.lits) x ≡ true → x < length l.counts.items;
}
