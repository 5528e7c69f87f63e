-- Where the ids of firm clauses stand in the lists of their literals.
use Rattle.std.specs.Prelude.{◌≡◌, ◌≢◌, ◌<◌, ℕ, true, if◌then◌else◌, List, [], length, map, Option, slice_index_or}
use Rattle.clause_store.specs.Stored.{Stored, slot, slot_lits, is_firm}
use Rattle.sat_terms.specs.Literal.{has}
use Rattle.clause_store.specs.Listing.{times}
use Rattle.clause_store.specs.Lists.{occ_at}

-- the lists of ids by literal, and what is kept beside each clause
pub record Table : Type 0 where
  pub lists : List (List ℕ)
  pub spots : List (List ℕ)

-- the literals in whose lists a clause stands: all of a firm one, and none else
abbrev pub listed_lits : Option Stored → List ℕ
listed_lits x = if is_firm x then slot_lits x else []

abbrev pub listed_lit : Option Stored → ℕ → ℕ
listed_lit x i = slice_index_or (listed_lits x) i 0

-- what is kept beside a clause, a place for each of its literals
abbrev pub spots_of : List (List ℕ) → ℕ → List ℕ
spots_of spots id = slice_index_or spots id []

abbrev pub spot : List (List ℕ) → ℕ → ℕ → ℕ
spot spots id i = slice_index_or (spots_of spots id) i 0

-- the ends of the lists of some literals
abbrev pub ends : List (List ℕ) → List ℕ → List ℕ
ends table lits = map (λ lit. length (occ_at table lit)) lits

-- the id stands in the list of the literal, which is the clause's i-th one, at the place that is kept for it
pub record StandsAt (table spots : List (List ℕ)) (id i lit : ℕ) : Type 0 where
  pub known : i < length (spots_of spots id)
  pub within : spot spots id i < length (occ_at table lit)
  pub there : slice_index_or (occ_at table lit) (spot spots id i) 0 ≡ id

-- each firm clause stands in the lists of its literals at the places that are kept beside it
pub record AllStand (s : List (Option Stored)) (table spots : List (List ℕ)) : Type 0 where
  pub stands : (id i : ℕ) → i < length (listed_lits (slot s id)) → StandsAt table spots id i (listed_lit (slot s id) i)

-- the same of one literal alone
pub record StandIn (s : List (Option Stored)) (table spots : List (List ℕ)) (lit : ℕ) : Type 0 where
  pub stands : (id i : ℕ) → i < length (listed_lits (slot s id)) → listed_lit (slot s id) i ≡ lit → StandsAt table spots id i lit

-- a list holds ids of firm clauses alone that hold the literal
pub record AllListed (s : List (Option Stored)) (ids : List ℕ) (lit : ℕ) : Type 0 where
  pub listed : (id : ℕ) → 0 < times ids id → has (listed_lits (slot s id)) lit ≡ true

-- each firm clause but that of one id stands so
abbrev pub OthersStand : List (Option Stored) → List (List ℕ) → List (List ℕ) → ℕ → Type 0
OthersStand s table spots gone =
    (id i : ℕ) → id ≢ gone → i < length (listed_lits (slot s id))
    → StandsAt table spots id i (listed_lit (slot s id) i)

-- each clause that stood in the lists stands there, but for one that is gone from the list of a literal
abbrev pub KeepStanding : List (Option Stored) → Table → Table → ℕ → ℕ → Type 0
KeepStanding s old new lit gone =
    (id i : ℕ) → i < length (listed_lits (slot s id)) → (listed_lit (slot s id) i ≡ lit → id ≢ gone)
    → StandsAt old.lists old.spots id i (listed_lit (slot s id) i)
    → StandsAt new.lists new.spots id i (listed_lit (slot s id) i)
