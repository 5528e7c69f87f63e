-- Turns of a search.
use Rattle.std.specs.Prelude.{◌≡◌, ◌≢◌, ◌⊎◌, ◌+◌, ◌-◌, ◌*◌, ◌^◌, ◌<◌, ◌≤◌, ℕ, true, false, List, [], ◌∷◌, ◌++◌, length, take, Option, None}
use Rattle.sat_terms.specs.Literal.{has}
use Rattle.clause_store.specs.Stored.{Stored, slot}
use Rattle.trail_state.specs.declared.trail.Step.{Step}
use Rattle.trail_state.specs.declared.reason.Reason.TheVariants.{Decision}
use Rattle.trail_state.specs.Trail.{step, true_on}
use Rattle.trail_state.specs.Rank.{rank}
use Rattle.conflict_analysis.specs.Counting.{Counted}
use Rattle.search_policy.specs.Plan.{restarts_left}
use Rattle.search_engine.specs.declared.state.Core.{Core}
use Rattle.search_engine.specs.declared.cursor.Cursor.{Cursor}
use Rattle.search_engine.specs.declared.conflict.Turn.{Turn}
use Rattle.search_engine.specs.declared.conflict.Turn.TheVariants.{Goes, Ends}
use Rattle.search_engine.specs.Searching.{IsReady, CountsFrom, FoundIs}

-- all of the literals are true on the trail
abbrev pub AllOn : List Step → List ℕ → Type 0
AllOn t lits = (l : ℕ) → has lits l ≡ true → true_on t l ≡ true

-- what is true on a trail is true on another
abbrev pub KeepsTrue : List Step → List Step → Type 0
KeepsTrue t t' = (l : ℕ) → true_on t l ≡ true → true_on t' l ≡ true

-- each decision is an assumption, or all assumptions are true before it
abbrev pub AssumesFirst : List ℕ → List Step → Type 0
AssumesFirst assumptions t =
    (i : ℕ) → i < length t → (step t i).reason ≡ Decision → (has assumptions (step t i).lit ≡ true) ⊎ AllOn (take i t) assumptions

-- What holds between two turns of a search under these assumptions.
pub record IsBetweenTurns (assumptions : List ℕ) (c : Core) : Type 0 where
  pub ready : IsReady assumptions c
  pub first : AssumesFirst assumptions c.trail.steps
  pub unspent : c.tally.is_spent ≡ false
  pub settled : c.tally.owes ≡ None

-- The rank of a trail has risen, over however many places it is counted.
pub record RankRises (old new : List Step) : Type 0 where
  pub rises : (n : ℕ) → length new ≤ n → rank n old < rank n new

-- A decision of the old trail and all behind it gave way to one implied literal.
pub record Jumped (old new : List Step) : Type 0 where
  pub kept : ℕ
  pub within : kept < length old
  pub decided : (step old kept).reason ≡ Decision
  pub asserted : Step
  pub implied : asserted.reason ≢ Decision
  pub steps : new ≡ take kept old ++ asserted ∷ []

-- What a search has left, so many restarts over so many variables: one restart less counts for more than any rank of the trail.
abbrev pub left_over : ℕ → ℕ → List Step → ℕ
left_over restarts n t = restarts * 3 ^ n + (3 ^ n - rank n t)

-- The measure of a search. Each decision and each propagated literal raises the rank of the trail, and so does the literal that
-- is put in the place of a decision at a conflict. Only going back to the root lowers the rank, and the policy allows that so
-- many times.
abbrev pub measure : Core → ℕ
measure c = left_over (restarts_left c.policy) c.trail.declared c.trail.steps

-- A turn of a search goes on: its measure has fallen.
pub record Next (assumptions : List ℕ) (old new : Core) : Type 0 where
  pub stands : IsBetweenTurns assumptions new
  pub falls : measure new < measure old

-- from whatever total the old tally counts, the new one does
abbrev pub KeepsCount : Counted → Counted → Type 0
KeepsCount old new = (before : ℕ) → CountsFrom before old → CountsFrom before new

-- The ids name nothing now, and every other id names what it did.
pub record FreesAll (old new : List (Option Stored)) (ids : List ℕ) : Type 0 where
  pub freed : (id : ℕ) → has ids id ≡ true → slot new id ≡ None
  pub others : (id : ℕ) → has ids id ≡ false → slot new id ≡ slot old id

-- the assumptions before the cursor are true
pub record Passed (assumptions : List ℕ) (c : Core) (cursor : Cursor) : Type 0 where
  pub assumed : AllOn c.trail.steps (take cursor.assumption assumptions)

-- what a turn leads to
abbrev pub TurnIs : List ℕ → Core → Core → Turn → Type 0
TurnIs assumptions old new Goes = Next assumptions old new
TurnIs assumptions old new (Ends found) = FoundIs assumptions old new found
