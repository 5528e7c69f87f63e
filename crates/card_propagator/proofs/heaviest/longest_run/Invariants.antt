use Rattle.std.proofs.Common.{◌≡◌, ◌≤◌, ◌<◌, ℕ, take, length, get_or}
use Rattle.clause_store.specs.Listing.{times}
use Rattle.card_propagator.proofs.heaviest.longest_run.Given as goal

abbrev pub invariant-loop-code : goal.invariant-loop-code
invariant-loop-code l = record {
  run : l.run ≡ times (take l.code-index l.sorted) l.last;
  most : (x : ℕ) → times (take l.code-index l.sorted) x ≤ l.most;
  low : (j : ℕ) → j < l.code-index → get_or l.sorted j 0 ≤ l.last;
  high : (j : ℕ) → l.code-index ≤ j → j < length l.sorted → l.last ≤ get_or l.sorted j 0;
}
