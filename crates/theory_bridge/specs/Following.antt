-- A seen trail beside the trail that it follows.
use Rattle.std.specs.Prelude.{ℕ, ◌≡◌, ◌<◌, ◌≤◌, Bool, true, List, length, Some}
use Rattle.sat_terms.specs.Literal.{has, var_of}
use Rattle.trail_state.specs.declared.trail.Step.{Step}
use Rattle.trail_state.specs.Trail.{Trace, step, true_on, level_on, place_on}
use Rattle.trail_state.specs.Table.{is_decision}
use Rattle.user_propagator.specs.declared.seen.Seen.{Seen}
use Rattle.user_propagator.specs.Board.{Board, entry, trail_value}

-- Each literal of the seen trail stands on the trail, at the same level; those above the root stand
-- in the trail's order.
pub record Mirrors (seen : List Seen) (t : List Step) : Type 0 where
  pub lits : (k : ℕ) → k < length seen → true_on t (entry seen k).lit ≡ true
  pub levels : (k : ℕ) → k < length seen
      → level_on t (var_of (entry seen k).lit) ≡ Some (entry seen k).level
  pub order : (j k : ℕ) → j < k → k < length seen
      → 0 < (entry seen j).level → 0 < (entry seen k).level
      → (p q : ℕ) → place_on t (var_of (entry seen j).lit) ≡ Some p
      → place_on t (var_of (entry seen k).lit) ≡ Some q → p < q

-- the literal stands on the seen trail
abbrev pub IsTold : List Seen → ℕ → Type 0
IsTold seen l = trail_value seen l ≡ Some true

-- the step's variable is observed
abbrev pub is_watched : Board → Step → Bool
is_watched b x = has b.observed (var_of x.lit)

-- The seen trail follows the trail. It mirrors it; above the root it left out no observed literal
-- before one that it has; its level is at most the trail's, and it has every observed literal of
-- the levels below its own. So above the root it is a prefix of the trail's observed literals.
pub record Follows (b : Board) (t : Trace) : Type 0 where
  pub mirrors : Mirrors b.seen t.steps
  pub unbroken : (i j : ℕ) → i < j → j < length t.steps → 0 < (step t.steps i).level
      → is_watched b (step t.steps i) ≡ true
      → IsTold b.seen (step t.steps j).lit → IsTold b.seen (step t.steps i).lit
  pub level : b.level ≤ t.level
  pub below : (i : ℕ) → i < length t.steps → (step t.steps i).level < b.level
      → is_watched b (step t.steps i) ≡ true → IsTold b.seen (step t.steps i).lit

-- each observed literal of the first n steps was told
pub record AreTold (b : Board) (t : List Step) (n : ℕ) : Type 0 where
  pub each : (i : ℕ) → i < n → is_watched b (step t i) ≡ true → IsTold b.seen (step t i).lit

-- every level of the trail was told, and every observed literal
pub record IsCaughtUp (b : Board) (t : Trace) : Type 0 where
  pub level : b.level ≡ t.level
  pub lits : AreTold b t.steps (length t.steps)

-- from a place of the seen trail on, each literal that was told is a decision where the trail
-- decided it
pub record AreFlagged (t : List Step) (from : ℕ) (seen : List Seen) : Type 0 where
  pub each : (k : ℕ) → from ≤ k → k < length seen → (i : ℕ) → i < length t
      → (step t i).lit ≡ (entry seen k).lit
      → (entry seen k).decision ≡ is_decision (step t i).reason
