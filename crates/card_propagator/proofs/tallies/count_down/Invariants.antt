use Rattle.std.proofs.Common.{◌≡◌, ℕ, ◌+◌, take, get_or, length}
use Rattle.clause_store.specs.Listing.{times}
use Rattle.card_propagator.proofs.tallies.count_down.Given as goal

abbrev pub invariant-loop-i : goal.invariant-loop-i
invariant-loop-i l = record {
  size : length l.counts.items ≡ length l.initial.counts.items;
  less : (k : ℕ) → get_or l.counts.items k 0 + times (take l.i l.ids) k ≡ get_or l.initial.counts.items k 0;
}
