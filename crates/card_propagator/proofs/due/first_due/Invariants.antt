use Rattle.std.proofs.Common.{◌≡◌, ◌≤◌, ◌<◌, ℕ, None, get_or, true, length}
use Rattle.sat_terms.specs.Literal.{var_of}
use Rattle.clause_store.specs.Listing.{times}
use Rattle.card_propagator.specs.Values.{told, value}
use Rattle.card_propagator.specs.Counting.{is_told}
use Rattle.card_propagator.proofs.due.first_due.Given as goal

abbrev pub invariant-loop-i : goal.invariant-loop-i
invariant-loop-i l = record {
  spared : (j : ℕ) → j < l.i → j < length l.lits → value l.table (get_or l.lits j 0) ≡ None → times l.lits (get_or l.lits j 0) ≤ l.spare;
  passed : (j : ℕ) → j < l.passed → j < length l.lits → is_told (told l.table (var_of (get_or l.lits j 0))) ≡ true;
}
