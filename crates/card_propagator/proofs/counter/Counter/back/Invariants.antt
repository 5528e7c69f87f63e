use Rattle.std.proofs.Common.{◌≡◌, ◌≤◌, ◌<◌, ◌+◌, ℕ, List, length}
use Rattle.std.specs.List.{count_by}
use Rattle.card_propagator.specs.Values.{told, keep}
use Rattle.card_propagator.specs.Counting.{Counting, is_told}
use Rattle.card_propagator.proofs.counter.Counter.back.Given as goal

abbrev pub invariant-loop : goal.invariant-loop
invariant-loop l = record {
  table : (v : ℕ) → keep l.level (told l.self.table v) ≡ keep l.level (told l.initial.self.table v);
  size : length l.self.table ≡ length l.initial.self.table;
  rules : l.self.rules ≡ l.initial.self.rules;
}

abbrev pub decreases-loop : goal.decreases-loop
decreases-loop l = count_by is_told l.self.table
