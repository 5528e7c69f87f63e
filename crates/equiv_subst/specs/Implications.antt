-- Implications between literals, and the literals that lead to one another.
use Rattle.std.specs.Prelude.{◌≡◌, ◌≢◌, ℕ, ◌+◌, ◌*◌, ◌<◌, ◌≤◌, ◌⊎◌, Bool, true, List, [], ◌∷◌, length, Option, slice_index_or}
use Rattle.sat_terms.specs.Literal.{has, var_of, IsLiteral}
use Rattle.clause_store.specs.Stored.{Stored}
use Rattle.firm_terms.specs.Firm.{firm}
use Rattle.firm_terms.specs.Implying.{Joined, IsPairOf, Says, Implication}

-- a table with the literals that each literal leads to, at its code
abbrev pub arcs : List (List ℕ) → ℕ → List ℕ
arcs g a = slice_index_or g a []

abbrev pub Arc : List (List ℕ) → ℕ → ℕ → Type 0
Arc g a b = has (arcs g a) b ≡ true

-- how many there are
abbrev pub size : List (List ℕ) → ℕ
size [] = 0
size (c ∷ g) = length c + size g

-- only literals lead to others, which are literals with a place in the table
pub record IsArc (g : List (List ℕ)) (a b : ℕ) : Type 0 where
  pub within : b < length g
  pub from : IsLiteral a
  pub to : IsLiteral b

abbrev pub IsGraph : List (List ℕ) → Type 0
IsGraph g = (a b : ℕ) → Arc g a b → IsArc g a b

-- one arc more
pub record Gains (old new : List (List ℕ)) (from to : ℕ) : Type 0 where
  pub kept : (a b : ℕ) → Arc old a b → Arc new a b
  pub come : Arc new from to
  pub only : (a b : ℕ) → Arc new a b → Arc old a b ⊎ ((a ≡ from) × (b ≡ to))
  pub more : size new ≡ size old + 1

-- the arcs of one clause more
pub record Adds (old new : List (List ℕ)) (c : List ℕ) : Type 0 where
  pub kept : (a b : ℕ) → Arc old a b → Arc new a b
  pub come : (a b : ℕ) → IsPairOf c a b → Arc new a b
  pub only : (a b : ℕ) → Arc new a b → Arc old a b ⊎ IsPairOf c a b
  pub small : size new ≤ size old + 2

-- the table says what the binary clauses of some ids say
pub record Shows (s : List (Option Stored)) (ids : List ℕ) (g : List (List ℕ)) : Type 0 where
  pub sound : (a b : ℕ) → Arc g a b → Implication s a b
  pub whole : (k a b : ℕ) → k < length ids → Says s (slice_index_or ids k 0) a b → Arc g a b
  pub small : size g ≤ 2 * length ids

-- the table says what the binary firm clauses say
pub record IsGraphOf (s : List (Option Stored)) (g : List (List ℕ)) : Type 0 where
  pub sound : (a b : ℕ) → Arc g a b → Implication s a b
  pub whole : (a b : ℕ) → Implication s a b → Arc g a b
  pub small : size g ≤ 2 * length (firm s)

-- literals that lead to one another have frozen variables
abbrev pub AllFrozen : (ℕ → Bool) → List (List ℕ) → Type 0
AllFrozen frozen g = (l m : ℕ) → l ≢ m → Joined (Arc g) l m → frozen (var_of l) ≡ true
