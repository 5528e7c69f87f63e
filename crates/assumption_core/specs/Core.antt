-- What starts a core.
use Rattle.std.specs.Prelude.{◌≡◌, ◌<◌, ℕ, Bool, true, List, length, Option, Some, None, IsSome}
use Rattle.sat_terms.specs.Literal.{has, neg}
use Rattle.sat_terms.specs.Truth.{Assignment, lit_true}
use Rattle.clause_store.specs.Stored.{Stored, slot, slot_lits}
use Rattle.trail_state.specs.declared.trail.Step.{Step}
use Rattle.trail_state.specs.declared.reason.Reason.TheVariants.{Decision}
use Rattle.trail_state.specs.Trail.{step, true_on}
use Rattle.trail_state.specs.Clauses.{FalseOn}
use Rattle.rooted_trails.specs.Known.{Known}
use Rattle.assumption_core.specs.declared.cores.CoreStart.{CoreStart}
use Rattle.assumption_core.specs.declared.cores.CoreStart.TheVariants.{Falsified, Conflict}

-- every decision of the trail is an assumption
abbrev pub DecidesAssumed : List Step → List ℕ → Type 0
DecidesAssumed t assumptions = (i : ℕ) → i < length t → (step t i).reason ≡ Decision → has assumptions (step t i).lit ≡ true

-- the literal is a false assumption, or the clause is live and false
abbrev pub Starts : List (Option Stored) → List Step → List ℕ → CoreStart → Type 0
Starts s t assumptions (Falsified lit) = (has assumptions lit ≡ true) × (true_on t (neg lit) ≡ true)
Starts s t assumptions (Conflict id) = IsSome (slot s id) × FalseOn t (slot_lits (slot s id))

-- the falsified assumption, if that starts the core
abbrev pub falsified_by : CoreStart → Option ℕ
falsified_by (Falsified lit) = Some lit
falsified_by (Conflict id) = None

-- whether the literal, if there is one, is true
abbrev pub asks : Option ℕ → Assignment → Bool
asks None f = true
asks (Some lit) f = lit_true f lit

-- what is known of an assignment, and that it passes a test
abbrev pub Both : List (Option Stored) → (Assignment → Bool) → (Assignment → Bool) → Assignment → Type 0
Both s admits test f = Known s admits f × (test f ≡ true)
