use Rattle.std.proofs.Common.{◌≡◌, ◌≤◌, ℕ, ◌+◌, ◌-◌, length}
use Rattle.watch_lists.specs.Watching.{at}
use Rattle.watch_lists.proofs.waiting.reach_one.Given as goal

abbrev pub invariant-loop-alloc : goal.invariant-loop-alloc
invariant-loop-alloc l = record {
  longer : length l.initial.lists.items ≤ length l.lists.items;
  same : (k : ℕ) → at l.lists.items k ≡ at l.initial.lists.items k;
}

abbrev pub decreases-loop-alloc : goal.decreases-loop-alloc
decreases-loop-alloc l = (l.code + 1) - l.lists.len
