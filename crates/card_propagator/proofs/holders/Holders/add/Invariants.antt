use Rattle.std.proofs.Common.{◌≡◌, ℕ, ◌++◌, take}
use Rattle.std.specs.Prelude.{replicate}
use Rattle.clause_store.specs.Listing.{times}
use Rattle.clause_store.specs.Lists.{occ_at}
use Rattle.card_propagator.proofs.holders.Holders.add.Given as goal

abbrev pub invariant-loop-i : goal.invariant-loop-i
invariant-loop-i l = (lit : ℕ) → occ_at l.self lit ≡ occ_at l.initial.self lit ++ replicate (times (take l.i l.lits) lit) l.id
