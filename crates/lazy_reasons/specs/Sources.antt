-- Where the literals of a reason come from.
use Rattle.std.specs.List.{list_any}
use Rattle.std.specs.Prelude.{◌≡◌, ◌≢◌, ◌==◌, ◌||◌, ℕ, Bool, true, List, Option, IsSome}
use Rattle.sat_terms.specs.Literal.{has, neg}
use Rattle.sat_terms.specs.Truth.{Assignment, Implies}
use Rattle.user_propagator.specs.declared.seen.Seen.{Seen}
use Rattle.clause_store.specs.Stored.{Stored, slot, slot_lits}
use Rattle.trail_state.specs.declared.trail.Step.{Step}
use Rattle.trail_state.specs.Clauses.{IsReason}
use Rattle.rooted_trails.specs.Known.{Known, stands_in}
use Rattle.lazy_reasons.specs.declared.source.Source.{Source}
use Rattle.lazy_reasons.specs.declared.source.Source.TheVariants.{Stored as InStore, Given}

-- the literals of a reason
abbrev pub source_lits : List (Option Stored) → Source → List ℕ
source_lits s (InStore id) = slot_lits (slot s id)
source_lits s (Given c) = c

-- a clause of the store is live
abbrev pub IsLive : List (Option Stored) → Source → Type 0
IsLive s (InStore id) = IsSome (slot s id)
IsLive s (Given c) = Unit {0}

-- The literals follow from what is known, and are a reason for the step at a place.
pub record IsSource (s : List (Option Stored)) (admits : Assignment → Bool) (t : List Step) (i : ℕ) (r : Source) : Type 0 where
  pub live : IsLive s r
  pub implied : Implies (Known s admits) (source_lits s r)
  pub reason : IsReason (source_lits s r) t i

-- whether a literal stands in a live clause, or its opposite on the seen trail
abbrev pub is_met : List (Option Stored) → List Seen → ℕ → Bool
is_met s seen l = stands_in s l || list_any (λ e. e.lit == neg l) seen

-- each literal of the list does
abbrev pub AreMet : List (Option Stored) → List Seen → List ℕ → Type 0
AreMet s seen c = (l : ℕ) → has c l ≡ true → is_met s seen l ≡ true

-- each of them does but for one
abbrev pub AreMetBut : List (Option Stored) → List Seen → ℕ → List ℕ → Type 0
AreMetBut s seen but c = (l : ℕ) → has c l ≡ true → l ≢ but → is_met s seen l ≡ true
