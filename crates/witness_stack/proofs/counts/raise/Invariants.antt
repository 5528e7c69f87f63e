use Rattle.std.proofs.Common.{◌≡◌, ◌+◌, ℕ, length, take}
use Rattle.witness_stack.specs.Counts.{count_at, count_sum, times}
use Rattle.witness_stack.proofs.counts.raise.Given as goal

abbrev pub invariant-loop-lit : goal.invariant-loop-lit
invariant-loop-lit l = record {
  counts : (x : ℕ) → count_at l.counts.items x ≡ count_at l.initial.counts.items x + times (take l.lit-index l.lits) x;
  sum : count_sum l.counts.items ≡ count_sum l.initial.counts.items + l.lit-index;
  long : length l.counts.items ≡ length l.initial.counts.items;
}
