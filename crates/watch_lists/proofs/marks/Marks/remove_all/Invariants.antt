use Rattle.std.proofs.Common.{◌≡◌, ◌≤◌, ◌-◌, ◌&&◌, ℕ, not, length, take}
use Rattle.sat_terms.specs.Literal.{has}
use Rattle.watch_lists.specs.Propagation.{marked}
use Rattle.watch_lists.proofs.marks.Marks.remove_all.Given as goal

abbrev pub invariant-each : goal.invariant-each
invariant-each l = record {
  within : l.k ≤ length l.ids;
  less : (k : ℕ) → marked l.self k ≡ (marked l.initial.self k && not (has (take l.k l.ids) k));
}

abbrev pub decreases-each : goal.decreases-each
decreases-each l = length l.ids - l.k
