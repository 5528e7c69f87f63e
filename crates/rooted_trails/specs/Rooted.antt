-- Trails that are rooted in a store: each literal that was not decided has a reason among the clauses. It is a test that
-- computes, so there is at most one proof of it, and a ghost field can hold that.
use Rattle.std.specs.List.{list_any, list_all}
use Rattle.std.specs.Prelude.{◌≡◌, ◌≢◌, ◌<◌, ◌==◌, ◌&&◌, ◌||◌, ℕ, Bool, true, false, List, [], ◌∷◌, length, take, Option, Some, None, is_some, nat_lt}
use Rattle.sat_terms.specs.Literal.{has, neg}
use Rattle.sat_terms.specs.Truth.{Assignment, lit_true}
use Rattle.clause_store.specs.Stored.{Stored, slot, slot_lits}
use Rattle.trail_state.specs.declared.trail.Step.{Step}
use Rattle.trail_state.specs.declared.reason.Reason.{Reason}
use Rattle.trail_state.specs.declared.reason.Reason.TheVariants.{Decision, Clause, Theory}
use Rattle.trail_state.specs.Trail.{step, true_on}

-- whether a clause is a reason for the step at place i: it holds the literal, and its other literals are false at earlier places
abbrev pub is_reason : List ℕ → List Step → ℕ → Bool
is_reason c t i = has c (step t i).lit && list_all (λ l. (l == (step t i).lit) || true_on (take i t) (neg l)) c

-- Whether the step at place i has this reason among the clauses. A decision needs none. A clause must be live and a reason for it.
-- What a theory implied has none there.
abbrev pub has_reason : List (Option Stored) → List Step → ℕ → Reason → Bool
has_reason s t i Decision = true
has_reason s t i (Clause id) = is_some (slot s id) && is_reason (slot_lits (slot s id)) t i
has_reason s t i Theory = false

-- whether a clause is that of this one literal
abbrev pub is_one : List ℕ → ℕ → Bool
is_one [] l = false
is_one (x ∷ []) l = x == l
is_one (x ∷ y ∷ c) l = false

-- whether a live clause of this one literal is in the store
abbrev pub is_unit : ℕ → Option Stored → Bool
is_unit l None = false
is_unit l (Some c) = is_one c.lits l

abbrev pub has_unit : List (Option Stored) → ℕ → Bool
has_unit s l = list_any (is_unit l) s

-- whether the step at a place has its reason, or stands at the root and a live clause of that one literal is in the store
abbrev pub rooted_at : List (Option Stored) → List Step → ℕ → Bool
rooted_at s t i = has_reason s t i (step t i).reason || (((step t i).level == 0) && has_unit s (step t i).lit)

-- every step of the trail is rooted in the clauses
abbrev pub Rooted : List (Option Stored) → List Step → Type 0
Rooted s t = (i : ℕ) → i < length t → rooted_at s t i ≡ true

-- whether a clause is the reason
abbrev pub by_clause : Reason → Bool
by_clause Decision = false
by_clause (Clause id) = true
by_clause Theory = false

-- above the root every step that a clause implied has that clause for its reason
abbrev pub HasReasons : List (Option Stored) → List Step → Type 0
HasReasons s t = (i : ℕ) → i < length t → 0 < (step t i).level → by_clause (step t i).reason ≡ true → has_reason s t i (step t i).reason ≡ true

-- whether the theory implied the step at a place, above the root: it gives the reason when it is asked for it
abbrev pub is_theory : Reason → Bool
is_theory Decision = false
is_theory (Clause id) = false
is_theory Theory = true

abbrev pub is_given : List Step → ℕ → Bool
is_given t i = is_theory (step t i).reason && nat_lt 0 (step t i).level

-- the step at a place stands at the root, and every admitted assignment that makes the literals before it true makes it true
pub record FollowsAt (admits : Assignment → Bool) (t : List Step) (i : ℕ) : Type 0 where
  pub root : (step t i).level ≡ 0
  pub follows : (f : Assignment) → admits f ≡ true → ((j : ℕ) → j < i → lit_true f (step t j).lit ≡ true) → lit_true f (step t i).lit ≡ true

-- Every step of the trail is rooted in the clauses, or a theory that admits just these assignments implied it, or it follows at the
-- root from what is admitted. There is at most one proof of it.
abbrev pub RootedUnder : List (Option Stored) → (Assignment → Bool) → List Step → Type 0
RootedUnder s admits t = (i : ℕ) → i < length t → (rooted_at s t i || is_given t i) ≡ false → FollowsAt admits t i

-- the literals of a reason: those of its clause, if that is live
abbrev pub reason_lits : List (Option Stored) → Reason → List ℕ
reason_lits s Decision = []
reason_lits s (Clause id) = slot_lits (slot s id)
reason_lits s Theory = []

-- a literal stands at the place, above the root, and was not decided
pub record IsImpliedAt (t : List Step) (i : ℕ) : Type 0 where
  pub within : i < length t
  pub above : 0 < (step t i).level
  pub implied : (step t i).reason ≢ Decision

-- a literal stands at the place, above the root, and a clause implied it
pub record IsImpliedByClause (t : List Step) (i : ℕ) : Type 0 where
  pub within : i < length t
  pub above : 0 < (step t i).level
  pub clause : by_clause (step t i).reason ≡ true
