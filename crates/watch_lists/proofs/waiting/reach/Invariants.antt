use Rattle.std.proofs.Common.{◌≡◌, ◌≤◌, ◌<◌, ℕ, true, length, take}
use Rattle.sat_terms.specs.Literal.{has}
use Rattle.watch_lists.specs.Watching.{at}
use Rattle.watch_lists.proofs.waiting.reach.Given as goal

abbrev pub invariant-loop-lit : goal.invariant-loop-lit
invariant-loop-lit l = record {
  long : (k : ℕ) → has (take l.lit-index l.lits) k ≡ true → k < length l.lists.items;
  longer : length l.fn.lists.items ≤ length l.lists.items;
  same : (k : ℕ) → at l.lists.items k ≡ at l.fn.lists.items k;
}
