use Rattle.std.proofs.Common.{◌≡◌, ◌≤◌, ◌<◌, ℕ, ◌+◌, ◌-◌, length, slice_index_or}
use Rattle.clause_store.proofs.kinds.reach.Given as goal

abbrev pub invariant-loop-places : goal.invariant-loop-places
invariant-loop-places l =
    (length l.initial.places.items ≤ length l.places.items)
    × ((k : ℕ) → k < length l.initial.places.items → slice_index_or l.places.items k 0 ≡ slice_index_or l.initial.places.items k 0)

abbrev pub decreases-loop-places : goal.decreases-loop-places
decreases-loop-places l = (l.index + 1) - l.places.len
