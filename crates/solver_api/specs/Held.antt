-- What the engine of a solver holds, and what a clause makes of it.
use Rattle.std.specs.Prelude.{◌≡◌, ℕ, true, List, Option}
use Rattle.std.specs.List.Sorted.{IsStrictlyIncreasing}
use Rattle.sat_terms.specs.Literal.{has}
use Rattle.sat_terms.specs.Truth.{Assignment, clause_true}
use Rattle.sat_terms.specs.Answer.{Within}
use Rattle.clause_store.specs.Stored.{Stored, FirmTrue, StoreTrue}
use Rattle.conflict_analysis.specs.Counting.{Counted}
use Rattle.search_engine.specs.Searching.{StoreWithin}

-- the stored clauses, the greatest declared variable, and the count of the conflicts of the last search
pub record Held : Type 0 where
  pub store : List (Option Stored)
  pub declared : ℕ
  pub tally : Counted

-- A store has taken a clause: its firm clauses are true exactly where they were before and the clause is, and what made all of
-- its clauses true still does where it makes the clause true.
pub record Takes (old new : List (Option Stored)) (lits : List ℕ) : Type 0 where
  pub firm : (f : Assignment) → FirmTrue new f → FirmTrue old f × (clause_true f lits ≡ true)
  pub from_firm : (f : Assignment) → FirmTrue old f → clause_true f lits ≡ true → FirmTrue new f
  pub all : (f : Assignment) → StoreTrue old f → clause_true f lits ≡ true → StoreTrue new f
  pub within : (n : ℕ) → StoreWithin n old → Within n lits → StoreWithin n new

-- the same literals stand in rising order
pub record IsSortedCopy (lits sorted : List ℕ) : Type 0 where
  pub rising : IsStrictlyIncreasing sorted
  pub same : (l : ℕ) → has sorted l ≡ has lits l
