-- Clauses of fewer than two literals.
use Rattle.std.specs.Prelude.{◌≡◌, ◌<◌, ℕ, true, List, length, slice_index_or, Option}
use Rattle.sat_terms.specs.Literal.{has}
use Rattle.clause_store.specs.Stored.{Stored, slot, slot_lits}
use Rattle.trail_state.specs.declared.trail.Step.{Step}
use Rattle.watch_lists.specs.Watching.{TrueIn}

-- the listed clauses are attached and have fewer than two literals
abbrev pub AllShort : List ℕ → List (Option Stored) → List ℕ → Type 0
AllShort ids s short = (id : ℕ) → has short id ≡ true → (has ids id ≡ true) × (length (slot_lits (slot s id)) < 2)

-- each of the first n of the listed clauses has a true literal
abbrev pub AllMet : List (Option Stored) → List ℕ → ℕ → List Step → Type 0
AllMet s short n t = (k : ℕ) → k < n → TrueIn (slot_lits (slot s (slice_index_or short k 0))) t
