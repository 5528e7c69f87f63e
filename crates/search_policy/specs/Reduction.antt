-- Which clauses a reduction names.
use Rattle.std.specs.List.{list_any}
use Rattle.std.specs.Prelude.{◌≡◌, ◌⊎◌, ◌<◌, ◌≤◌, ◌/◌, ◌==◌, ◌&&◌, nat_le, not, ℕ, Bool, true, false, List, length, take, slice_index_or, Option}
use Rattle.clause_store.specs.Stored.{Stored, slot, slot_lits, slot_glue, is_redundant}
use Rattle.clause_store.specs.Listing.{HasEachOnce}
use Rattle.trail_state.specs.declared.trail.Step.{Step}
use Rattle.trail_state.specs.Trail.{step}
use Rattle.trail_state.specs.declared.reason.Reason.{Reason}
use Rattle.trail_state.specs.declared.reason.Reason.TheVariants.{Decision, Clause, Theory}

-- whether a reason names the clause of this id
abbrev pub names : Reason → ℕ → Bool
names Decision id = false
names (Clause c) id = c == id
names Theory id = false

-- whether the clause of an id is the reason of a literal on the trail
abbrev pub is_reason_on : List Step → ℕ → Bool
is_reason_on t id = list_any (λ x. names x.reason id) t

-- whether a clause may be forgotten: a redundant one of two or more literals and of glue above 2
abbrev pub is_spare : Option Stored → Bool
is_spare x = is_redundant x && nat_le 2 (length (slot_lits x)) && nat_le 3 (slot_glue x)

-- whether the clause of an id may be forgotten: it is spare, and no reason on the trail
abbrev pub is_candidate : List (Option Stored) → List Step → ℕ → Bool
is_candidate s t id = is_spare (slot s id) && not (is_reason_on t id)

-- one clause is forgotten before another: it has the greater glue, or the same and the older id
abbrev pub ComesFirst : List (Option Stored) → ℕ → ℕ → Type 0
ComesFirst s a b = (slot_glue (slot s b) < slot_glue (slot s a)) ⊎ ((slot_glue (slot s b) ≡ slot_glue (slot s a)) × (a ≤ b))

-- The ids are the first half, rounded down, of the clauses that may be forgotten, each of which
-- stands once in the order in which they are.
pub record IsReduction (s : List (Option Stored)) (t : List Step) (ids : List ℕ) : Type 0 where
  pub all : List ℕ
  pub each : HasEachOnce (is_candidate s t) all
  pub ordered : (i j : ℕ) → i ≤ j → j < length all → ComesFirst s (slice_index_or all i 0) (slice_index_or all j 0)
  pub half : ids ≡ take (length all / 2) all

-- a clause that a reduction may name
pub record IsForgettable (s : List (Option Stored)) (t : List Step) (id : ℕ) : Type 0 where
  pub redundant : is_redundant (slot s id) ≡ true
  pub long : 2 ≤ length (slot_lits (slot s id))
  pub glue : 2 < slot_glue (slot s id)
  pub unused : (i : ℕ) → i < length t → names (step t i).reason id ≡ false
