-- The lists of ids beside the clauses of a store.
use Rattle.std.specs.Prelude.{◌≡◌, ◌++◌, ℕ, List, Option, replicate}
use Rattle.sat_terms.specs.Normal.{IsNormal}
use Rattle.clause_store.specs.declared.stored.Keep.{Keep}
use Rattle.clause_store.specs.declared.stored.Keep.TheVariants.{Firm}
use Rattle.clause_store.specs.Stored.{Stored, slot, slot_lits}
use Rattle.clause_store.specs.Listing.{HasEachOnce, firm_at, redundant_at, holds_at}
use Rattle.clause_store.specs.Lists.{Gains, SameTimes, occ_at, firm_share, redundant_share, table_share}
use Rattle.clause_store.specs.Spots.{AllStand, spots_of, ends}

-- the lists of the firm ids, of the redundant ids, and of the firm ids by literal, and where the last ones stand
pub record Listing : Type 0 where
  pub firm : List ℕ
  pub redundant : List ℕ
  pub table : List (List ℕ)
  pub spots : List (List ℕ)

-- the new lists name one clause more
pub record Enlists (old new : Listing) (id : ℕ) (keep : Keep) (lits : List ℕ) : Type 0 where
  pub firm : Gains old.firm new.firm id (firm_share keep)
  pub redundant : Gains old.redundant new.redundant id (redundant_share keep)
  pub table : (lit : ℕ) → Gains (occ_at old.table lit) (occ_at new.table lit) id (table_share keep lits lit)

-- the same, where the clause stands at the end of the lists of its literals, and its places there are kept
pub record Appends (old new : Listing) (id : ℕ) (keep : Keep) (lits : List ℕ) : Type 0 where
  pub firm : Gains old.firm new.firm id (firm_share keep)
  pub redundant : Gains old.redundant new.redundant id (redundant_share keep)
  pub table : (lit : ℕ) → occ_at new.table lit ≡ occ_at old.table lit ++ replicate (table_share keep lits lit) id
  pub here : keep ≡ Firm → spots_of new.spots id ≡ ends old.table lits

-- the lists by literal are as before, and the others hold the same ids as often
pub record IsPutBack (old new : Listing) : Type 0 where
  pub firm : SameTimes old.firm new.firm
  pub redundant : SameTimes old.redundant new.redundant
  pub table : (lit : ℕ) → occ_at new.table lit ≡ occ_at old.table lit

-- The lists name the clauses of the store, whose clauses are normal. Each firm clause stands in the lists of its literals at
-- the places that are kept beside it.
pub record IsIndexed (s : List (Option Stored)) (x : Listing) : Type 0 where
  pub normal : (id : ℕ) → IsNormal (slot_lits (slot s id))
  pub firm : HasEachOnce (firm_at s) x.firm
  pub redundant : HasEachOnce (redundant_at s) x.redundant
  pub table : (lit : ℕ) → HasEachOnce (holds_at s lit) (occ_at x.table lit)
  pub stand : AllStand s x.table x.spots
