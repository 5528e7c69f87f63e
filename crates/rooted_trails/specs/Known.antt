-- What is known of an assignment: what is learned follows from this, and a core fails by it. And where literals stand.
use Rattle.std.specs.List.{list_any}
use Rattle.std.specs.Prelude.{◌≡◌, ℕ, Bool, true, List, Option}
use Rattle.sat_terms.specs.Literal.{has}
use Rattle.sat_terms.specs.Truth.{Assignment}
use Rattle.clause_store.specs.Stored.{Stored, StoreTrue, slot_lits}

-- what is admitted where nothing but clauses was given
abbrev pub everything : Assignment → Bool
everything f = true

-- an assignment makes the clauses of a store true, and is admitted
pub record Known (s : List (Option Stored)) (admits : Assignment → Bool) (f : Assignment) : Type 0 where
  pub clauses : StoreTrue s f
  pub admitted : admits f ≡ true

-- the literal stands in a live clause
abbrev pub stands_in : List (Option Stored) → ℕ → Bool
stands_in s l = list_any (λ x. has (slot_lits x) l) s

-- each literal of the list does
abbrev pub AllStandIn : List (Option Stored) → List ℕ → Type 0
AllStandIn s c = (l : ℕ) → has c l ≡ true → stands_in s l ≡ true
