use Rattle.std.proofs.Common.{◌≡◌, ◌≤◌, ◌+◌, length}
use Rattle.witness_stack.specs.Gap.{shown}
use Rattle.witness_stack.proofs.entries.lower_gap.Given as goal

abbrev pub invariant-loop-at : goal.invariant-loop-at
invariant-loop-at l = record {
  same : shown l.at l.gap l.slots.items ≡ shown l.front l.gap l.fn.slots.items;
  long : length l.slots.items ≡ length l.fn.slots.items;
  within : l.at + l.gap ≤ length l.slots.items;
  down : l.to ≤ l.at;
}

abbrev pub decreases-loop-at : goal.decreases-loop-at
decreases-loop-at l = l.at
