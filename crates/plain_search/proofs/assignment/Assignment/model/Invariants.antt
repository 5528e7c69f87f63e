use Rattle.std.proofs.Common.{◌≡◌, ℕ, ◌+◌, ◌<◌, get_or, length, None, true, false}
use Rattle.std.specs.Prelude.{unwrap_or}
use Rattle.plain_search.proofs.assignment.Assignment.model.Given as goal

abbrev pub invariant-loop-at : goal.invariant-loop-at
invariant-loop-at l = record {
  size : length l.model.items + 1 ≡ l.at;
  same : (k : ℕ) → k + 1 < l.at → get_or l.model.items k false ≡ unwrap_or (get_or l.self-inside.values.items (k + 1) None) true;
}
