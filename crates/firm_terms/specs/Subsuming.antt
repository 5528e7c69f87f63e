-- Subsumption and self-subsuming resolution (Eén, Biere, SAT 2005).
use Rattle.std.specs.Prelude.{◌≡◌, ◌≢◌, ℕ, true, List, Option}
use Rattle.sat_terms.specs.Literal.{has, neg}
use Rattle.clause_store.specs.Stored.{Stored, slot, slot_lits, is_firm}

-- every literal of c stands in d
abbrev pub IsWithin : List ℕ → List ℕ → Type 0
IsWithin c d = (l : ℕ) → has c l ≡ true → has d l ≡ true

-- Where d is `l or A`, and c is `-l or B` with B within A, the resolvent is A.
pub record Resolves (c d : List ℕ) (l : ℕ) : Type 0 where
  pub here : has d l ≡ true
  pub opposite : has c (neg l) ≡ true
  pub rest : (m : ℕ) → has c m ≡ true → m ≢ neg l → (has d m ≡ true) × (m ≢ l)

-- c neither lies within d nor shortens it
pub record IsFree (c d : List ℕ) : Type 0 where
  pub outside : IsWithin c d → ⊥
  pub uncut : (l : ℕ) → Resolves c d l → ⊥

-- the clause of an id lies within no other firm clause, and shortens none
abbrev pub IsDone : List (Option Stored) → ℕ → Type 0
IsDone s id = (other : ℕ) → other ≢ id → is_firm (slot s other) ≡ true → IsFree (slot_lits (slot s id)) (slot_lits (slot s other))

-- no firm clause lies within another, and no self-subsuming resolution shortens one
abbrev pub IsReduced : List (Option Stored) → Type 0
IsReduced s = (id : ℕ) → is_firm (slot s id) ≡ true → IsDone s id
