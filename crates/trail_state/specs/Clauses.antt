-- Clauses on a trail.
use Rattle.std.specs.Prelude.{◌≡◌, ◌≢◌, ℕ, true, List, None, take}
use Rattle.sat_terms.specs.Literal.{has, neg}
use Rattle.trail_state.specs.declared.trail.Step.{Step}
use Rattle.trail_state.specs.Trail.{step, true_on, value_on}

-- every literal of the clause is false
abbrev pub FalseOn : List Step → List ℕ → Type 0
FalseOn t c = (l : ℕ) → has c l ≡ true → true_on t (neg l) ≡ true

-- one literal of the clause has no value, and the others are false
pub record IsUnit (t : List Step) (c : List ℕ) (l : ℕ) : Type 0 where
  pub holds : has c l ≡ true
  pub free : value_on t l ≡ None
  pub others : (k : ℕ) → has c k ≡ true → k ≢ l → true_on t (neg k) ≡ true

-- the clause is neither false nor unit
pub record IsQuiet (t : List Step) (c : List ℕ) : Type 0 where
  pub not_false : FalseOn t c → ⊥
  pub not_unit : (l : ℕ) → IsUnit t c l → ⊥

-- A clause is a reason for the step at place i: it holds the literal, and its other literals are false at earlier places.
pub record IsReason (c : List ℕ) (t : List Step) (i : ℕ) : Type 0 where
  pub holds : has c (step t i).lit ≡ true
  pub others : (l : ℕ) → has c l ≡ true → l ≢ (step t i).lit → true_on (take i t) (neg l) ≡ true
