-- The clauses with which a clause is to be compared.
use Rattle.std.specs.Prelude.{◌≡◌, ℕ, ◌+◌, ◌<◌, ◌≤◌, ◌==◌, ◌&&◌, Bool, true, false, List, [], ◌∷◌, length, Option, if◌then◌else◌}
use Rattle.sat_terms.specs.Literal.{has}
use Rattle.clause_store.specs.Stored.{Stored, slot, slot_lits, is_firm}
use Rattle.clause_store.specs.Listing.{times, holds_at}
use Rattle.firm_terms.specs.Firm.{firm}
use Rattle.firm_terms.specs.Subsuming.{IsFree}

-- the clause of an id neither lies within that of another one nor shortens it
abbrev pub AreFree : List (Option Stored) → ℕ → ℕ → Type 0
AreFree s by id = IsFree (slot_lits (slot s by)) (slot_lits (slot s id))

-- The firm clauses that hold a literal came to some ids, each at most once, but for some of which a clause is free.
pub record Collects (s : List (Option Stored)) (by l : ℕ) (old new : List ℕ) : Type 0 where
  pub kept : (k : ℕ) → has new k ≡ false → has old k ≡ false
  pub whole : (k : ℕ) → holds_at s l k ≡ true → has new k ≡ false → AreFree s by k
  pub once : (k : ℕ) → times new k ≤ times old k + (if holds_at s l k then 1 else 0)

-- some ids, no more than there are firm clauses: a clause is free of all other firm clauses but theirs
pub record AreCandidates (s : List (Option Stored)) (by : ℕ) (ids : List ℕ) : Type 0 where
  pub few : length ids ≤ length (firm s)
  pub whole : (other : ℕ) → is_firm (slot s other) ≡ true → has ids other ≡ false → AreFree s by other

-- whether a clause begins with a literal
abbrev pub begins : List ℕ → ℕ → Bool
begins [] l = false
begins (x ∷ c) l = x == l

-- The firm clauses that begin with a literal came to some ids, each at most once, but for some that are free of a clause.
pub record Gathers (s : List (Option Stored)) (id l : ℕ) (old new : List ℕ) : Type 0 where
  pub kept : (i : ℕ) → has new i ≡ false → has old i ≡ false
  pub whole : (i : ℕ) → is_firm (slot s i) ≡ true → begins (slot_lits (slot s i)) l ≡ true → has new i ≡ false → AreFree s i id
  pub once : (i : ℕ) → times new i ≤ times old i + (if is_firm (slot s i) && begins (slot_lits (slot s i)) l then 1 else 0)

-- some ids, no more than there are firm clauses: all firm clauses but theirs, and but an empty one, are free of a clause
pub record AreSources (s : List (Option Stored)) (id : ℕ) (ids : List ℕ) : Type 0 where
  pub few : length ids ≤ length (firm s)
  pub whole : (i : ℕ) → is_firm (slot s i) ≡ true → 0 < length (slot_lits (slot s i)) → has ids i ≡ false → AreFree s i id
