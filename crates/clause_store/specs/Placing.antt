-- Clauses that lie in one array, by a table of their places.
use Rattle.std.specs.Prelude.{◌≤◌, ◌<◌, ◌+◌, ◌^◌, ℕ, List, [], ◌∷◌, length, Option, Some, None, if◌then◌else◌, take, drop, sum_by}
use Rattle.clause_store.specs.declared.arena.Place.{Place}
use Rattle.clause_store.specs.Stored.{Stored, slot_lits}

-- the clause at a place of the array
abbrev pub clause_at : List ℕ → Place → Stored
clause_at words p = record { lits = take p.len (drop p.start words); keep = p.keep; glue = p.glue }

-- what the id of a place names
abbrev pub slot_at : List ℕ → Place → Option Stored
slot_at words p = if p.live then Some (clause_at words p) else None

-- what the ids name
abbrev pub slots : List ℕ → List Place → List (Option Stored)
slots words [] = []
slots words (p ∷ ps) = slot_at words p ∷ slots words ps

-- how many literals the clauses have
abbrev pub literal_count : List (Option Stored) → ℕ
literal_count s = sum_by (λ x. length (slot_lits x)) s

-- what an arena holds: the clauses of the ids, and so many words
pub record Held : Type 0 where
  pub clauses : List (Option Stored)
  pub words : ℕ

-- a place lies in the array
abbrev pub IsWithin : List ℕ → Place → Type 0
IsWithin words p = p.start + p.len ≤ length words

abbrev pub AllWithin : List ℕ → List Place → Type 0
AllWithin words [] = Unit {0}
AllWithin words (p ∷ ps) = IsWithin words p × AllWithin words ps

-- Each place lies in the array, which has fewer than 2^32 words, and at least as many as the clauses have literals.
pub record IsArranged (words : List ℕ) (places : List Place) : Type 0 where
  pub within : AllWithin words places
  pub room : literal_count (slots words places) ≤ length words
  pub short : length words < 2 ^ 32
