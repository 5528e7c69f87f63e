use Rattle.std.proofs.Common.{◌≡◌, ◌≤◌, ◌<◌, ◌⊎◌, ◌-◌, ℕ, length, vec_len}
use Rattle.card_propagator.specs.Following.{IsWider}
use Rattle.card_propagator.proofs.counter.grow_table.Given as goal

abbrev pub invariant-loop-table : goal.invariant-loop-table
invariant-loop-table l = record {
  wider : IsWider l.initial.table.items l.table.items l.desk.seen;
  long : (length l.table.items ≤ l.need) ⊎ (l.table.items ≡ l.initial.table.items);
}

abbrev pub decreases-loop-table : goal.decreases-loop-table
decreases-loop-table l = l.need - vec_len l.table
