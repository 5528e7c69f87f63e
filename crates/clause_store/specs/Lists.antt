-- How lists of ids change.
use Rattle.std.specs.Prelude.{◌≡◌, ◌≢◌, ℕ, ◌+◌, List, [], slice_index_or}
use Rattle.clause_store.specs.declared.stored.Keep.{Keep}
use Rattle.clause_store.specs.declared.stored.Keep.TheVariants.{Firm, Redundant}
use Rattle.clause_store.specs.Listing.{times}

-- an id stands so many times more in the new list, and every other as often as before
pub record Gains (old new : List ℕ) (id more : ℕ) : Type 0 where
  pub here : times new id ≡ times old id + more
  pub others : (other : ℕ) → other ≢ id → times new other ≡ times old other

-- both lists hold the same ids as often
abbrev pub SameTimes : List ℕ → List ℕ → Type 0
SameTimes old new = (id : ℕ) → times new id ≡ times old id

-- the list of a literal, by the literal's code
abbrev pub occ_at : List (List ℕ) → ℕ → List ℕ
occ_at table lit = slice_index_or table lit []

-- how often the lists of either kind, and that of a literal, name a clause
abbrev pub firm_share : Keep → ℕ
firm_share Firm = 1
firm_share Redundant = 0

abbrev pub redundant_share : Keep → ℕ
redundant_share Firm = 0
redundant_share Redundant = 1

abbrev pub table_share : Keep → List ℕ → ℕ → ℕ
table_share Firm lits lit = times lits lit
table_share Redundant lits lit = 0
