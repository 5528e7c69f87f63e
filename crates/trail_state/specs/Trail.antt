-- Trails. A trail is seen as its steps, oldest first, its level and its number of declared variables.
use Rattle.std.specs.List.{list_any}
use Rattle.std.specs.Prelude.{◌≡◌, ◌<◌, ◌≤◌, ◌==◌, ℕ, suc, Bool, true, false, List, [], ◌∷◌, length, map, take, find, slice_index_or, Option, Some, None, option_map, if◌then◌else◌}
use Rattle.sat_terms.specs.Limits.{max_var}
use Rattle.sat_terms.specs.Literal.{neg, var_of}
use Rattle.trail_state.specs.declared.trail.Step.{Step}
use Rattle.trail_state.specs.declared.reason.Reason.{Reason}
use Rattle.trail_state.specs.declared.reason.Reason.TheVariants.{Decision, Clause, Theory}

-- what contracts see of a trail
pub record Trace : Type 0 where
  pub steps : List Step
  pub level : ℕ
  pub declared : ℕ

abbrev pub no_step : Step
no_step = record { lit = 0; level = 0; reason = Decision }

-- the step at a place, the oldest at 0
abbrev pub step : List Step → ℕ → Step
step t i = slice_index_or t i no_step

-- the literals of the steps
abbrev pub lits_of : List Step → List ℕ
lits_of t = map (λ x. x.lit) t

-- whether a literal is true on the trail
abbrev pub true_on : List Step → ℕ → Bool
true_on t l = list_any (λ x. x.lit == l) t

-- the value of a literal, if its variable has one
abbrev pub value_on : List Step → ℕ → Option Bool
value_on t l = if true_on t l then Some true else if true_on t (neg l) then Some false else None

-- the place of a variable's literal, if it has a value
abbrev pub place_on : List Step → ℕ → Option ℕ
place_on [] v = None
place_on (x ∷ t) v = if var_of x.lit == v then Some 0 else option_map suc (place_on t v)

-- the level of a variable and the reason of its value, if it has one
abbrev pub level_on : List Step → ℕ → Option ℕ
level_on t v = option_map (λ x. x.level) (find (λ x. var_of x.lit == v) t)

abbrev pub reason_on : List Step → ℕ → Option Reason
reason_on t v = option_map (λ x. x.reason) (find (λ x. var_of x.lit == v) t)

-- the level of a step behind a level: a decision opens the next one
abbrev pub level_after : ℕ → Reason → ℕ
level_after n Decision = suc n
level_after n (Clause id) = n
level_after n Theory = n

-- Each decision opens the next level, each other literal stands at the level before it, and `top` is the level behind them all.
abbrev pub Levelled : ℕ → List Step → ℕ → Type 0
Levelled n [] top = n ≡ top
Levelled n (x ∷ t) top = (x.level ≡ level_after n x.reason) × Levelled (level_after n x.reason) t top

-- no variable has two places
abbrev pub IsApart : List Step → Type 0
IsApart t = (i j : ℕ) → i < length t → j < length t → var_of (step t i).lit ≡ var_of (step t j).lit → i ≡ j

-- the shape of every trail whose current level is `top`
pub record IsTrail (t : List Step) (top : ℕ) : Type 0 where
  pub apart : IsApart t
  pub levels : Levelled 0 t top

-- the variables on the trail are declared, and there are as few as that leaves
pub record HasRoom (t : Trace) : Type 0 where
  pub few : t.declared ≤ max_var
  pub steps : length t.steps ≤ t.declared
  pub levels : t.level ≤ length t.steps
  pub named : (i : ℕ) → i < length t.steps → (0 < var_of (step t.steps i).lit) × (var_of (step t.steps i).lit ≤ t.declared)

-- A level starts at a place: the steps before it stand below the level, and the others don't.
pub record IsStart (t : List Step) (level start : ℕ) : Type 0 where
  pub within : start ≤ length t
  pub below : (i : ℕ) → i < start → (step t i).level < level
  pub rest : (i : ℕ) → start ≤ i → i < length t → level ≤ (step t i).level

-- The trail went back to a level: it keeps the front of the steps up to that level.
pub record IsBack (old new : Trace) (level : ℕ) : Type 0 where
  pub kept : ℕ
  pub within : kept ≤ length old.steps
  pub steps : new.steps ≡ take kept old.steps
  pub low : (i : ℕ) → i < kept → (step old.steps i).level ≤ level
  pub high : (i : ℕ) → kept ≤ i → i < length old.steps → level < (step old.steps i).level
  pub at : new.level ≡ level
  pub declared : new.declared ≡ old.declared
