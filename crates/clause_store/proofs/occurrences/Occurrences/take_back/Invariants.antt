use Rattle.std.proofs.Common.{◌≡◌, ℕ, ◌-◌, length, take}
use Rattle.clause_store.specs.Listing.{times}
use Rattle.clause_store.specs.Lists.{occ_at}
use Rattle.clause_store.proofs.occurrences.Occurrences.take_back.Given as goal

abbrev pub invariant-loop-i : goal.invariant-loop-i
invariant-loop-i l = record {
  lists : (lit : ℕ) → occ_at l.self.lists lit ≡ take (length (occ_at l.initial.self.lists lit) - times (take l.i l.lits) lit) (occ_at l.initial.self.lists lit);
  spots : l.self.spots ≡ l.initial.self.spots;
}
