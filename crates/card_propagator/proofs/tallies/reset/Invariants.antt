use Rattle.std.proofs.Common.{◌≡◌, ℕ, take, get_or, length, cond, ltb}
use Rattle.clause_store.specs.Listing.{times}
use Rattle.card_propagator.proofs.tallies.reset.Given as goal

abbrev pub invariant-loop-i : goal.invariant-loop-i
invariant-loop-i l = record {
  size : length l.counts.items ≡ length l.initial.counts.items;
  cleared : (k : ℕ) → get_or l.counts.items k 0 ≡ cond (ltb 0 (times (take l.i l.ids) k)) 0 (get_or l.initial.counts.items k 0);
}
