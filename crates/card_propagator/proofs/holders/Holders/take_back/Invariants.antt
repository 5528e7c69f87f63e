use Rattle.std.proofs.Common.{◌≡◌, ℕ, ◌-◌, length, take}
use Rattle.clause_store.specs.Listing.{times}
use Rattle.clause_store.specs.Lists.{occ_at}
use Rattle.card_propagator.proofs.holders.Holders.take_back.Given as goal

abbrev pub invariant-loop-i : goal.invariant-loop-i
invariant-loop-i l = (lit : ℕ) → occ_at l.self lit ≡ take (length (occ_at l.initial.self lit) - times (take l.i l.lits) lit) (occ_at l.initial.self lit)
