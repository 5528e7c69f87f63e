-- The tables behind a trail. The variable v stands in the table of variables at v - 1.
use Rattle.std.specs.Prelude.{◌≡◌, ◌<◌, ◌≤◌, ◌+◌, ◌-◌, ◌*◌, ◌==◌, ◌&&◌, ◌++◌, ℕ, zero, suc, Bool, true, false, List, [], ◌∷◌, length, map, nat_lt, replicate, slice_index_or, count_by, Option, None, if◌then◌else◌}
use Rattle.sat_terms.specs.Limits.{max_var}
use Rattle.sat_terms.specs.Literal.{var_of}
use Rattle.trail_state.specs.declared.trail.Step.{Step}
use Rattle.trail_state.specs.declared.trail.Entry.{Entry}
use Rattle.trail_state.specs.declared.reason.Reason.{Reason}
use Rattle.trail_state.specs.declared.reason.Reason.TheVariants.{Decision, Clause, Theory}
use Rattle.trail_state.specs.Trail.{step, value_on, IsTrail, IsStart, IsApart}

abbrev pub empty_entry : Entry
empty_entry = record { place = 0; level = 0; clause = 0 }

-- what the table has for a variable
abbrev pub entry_of : List Entry → ℕ → Entry
entry_of entries v = slice_index_or entries (v - 1) empty_entry

abbrev pub places_of : List Entry → List ℕ
places_of entries = map (λ e. e.place) entries

-- whether a level above the root starts at a place
abbrev pub opens : List ℕ → ℕ → ℕ → Bool
opens starts zero i = false
opens starts (suc n) i = slice_index_or starts n 0 == i

-- the place at which a level starts on a trail of so many literals
abbrev pub start_by : List ℕ → ℕ → ℕ → ℕ
start_by starts zero end = 0
start_by starts (suc n) end = slice_index_or starts n end

abbrev pub reason_by : Bool → Bool → ℕ → Reason
reason_by true theory clause = Decision
reason_by false true clause = Theory
reason_by false false clause = Clause clause

-- the step at a place, by its literal, what the table has for it and its flag
abbrev pub step_by : ℕ → Entry → Bool → List ℕ → ℕ → Step
step_by l e theory starts i = record { lit = l; level = e.level; reason = reason_by (opens starts e.level i) theory e.clause }

abbrev pub step_at : List ℕ → List Entry → List Bool → List ℕ → ℕ → Step
step_at lits entries theory starts i = step_by (slice_index_or lits i 0) (entry_of entries (var_of (slice_index_or lits i 0))) (slice_index_or theory i false) starts i

-- the first n steps
abbrev pub first_steps : (ℕ → Step) → ℕ → List Step
first_steps f zero = []
first_steps f (suc n) = first_steps f n ++ f n ∷ []

-- the steps of a trail
unfoldable pub steps_of : List ℕ → List Entry → List Bool → List ℕ → List Step
steps_of lits entries theory starts = first_steps (step_at lits entries theory starts) (length lits)

-- what the starts, and the flags, are once a literal came at a place
abbrev pub starts_after : List ℕ → ℕ → Reason → List ℕ
starts_after starts i Decision = starts ++ i ∷ []
starts_after starts i (Clause id) = starts
starts_after starts i Theory = starts

abbrev pub flags_after : List Bool → ℕ → Reason → List Bool
flags_after theory i Decision = theory
flags_after theory i (Clause id) = theory
flags_after theory i Theory = theory ++ replicate (i - length theory) false ++ true ∷ []

abbrev pub is_decision : Reason → Bool
is_decision Decision = true
is_decision (Clause id) = false
is_decision Theory = false

abbrev pub is_theory : Reason → Bool
is_theory Decision = false
is_theory (Clause id) = false
is_theory Theory = true

-- what the table of places has for a variable
abbrev pub entry : List ℕ → ℕ → ℕ
entry places v = slice_index_or places (v - 1) 0

-- the variable is declared, and the table has for it one more than the place i
pub record IsPlaced (places : List ℕ) (v i : ℕ) : Type 0 where
  pub named : 0 < v
  pub declared : v ≤ length places
  pub here : entry places v ≡ i + 1

-- The table has 0 for a variable with no value, else one more than its place. As many variables have 0 as are left without a value.
pub record TableFits (places : List ℕ) (t : List Step) : Type 0 where
  pub placed : (i : ℕ) → i < length t → IsPlaced places (var_of (step t i).lit) i
  pub within : (v : ℕ) → 0 < v → v ≤ length places → entry places v ≤ length t
  pub back : (v : ℕ) → 0 < v → v ≤ length places → 0 < entry places v → var_of (step t (entry places v - 1)).lit ≡ v
  pub apart : IsApart t
  pub filled : length t + count_by (λ p. p == 0) places ≡ length places
  pub few : length places ≤ max_var

-- each level above the root starts where the list says
abbrev pub AllStart : List Step → List ℕ → Type 0
AllStart t starts = (n : ℕ) → n < length starts → IsStart t (suc n) (slice_index_or starts n 0)

-- The tables fit the steps, and there is room for all that are declared: so no call but `declare` wants memory.
pub record IsHeld (lits : List ℕ) (entries : List Entry) (theory : List Bool) (starts : List ℕ) (room_for_lits room_for_flags room_for_starts : ℕ) : Type 0 where
  pub table : TableFits (places_of entries) (steps_of lits entries theory starts)
  pub shape : IsTrail (steps_of lits entries theory starts) (length starts)
  pub started : AllStart (steps_of lits entries theory starts) starts
  pub flags : length theory ≤ length lits
  pub lits_room : length entries ≤ room_for_lits
  pub flags_room : length entries ≤ room_for_flags
  pub starts_room : length entries ≤ room_for_starts

-- The table of values has the value of each literal at its code, and room for the literals of so many variables.
pub record IsValued (values : List (Option Bool)) (declared : ℕ) (t : List Step) : Type 0 where
  pub wide : (l : ℕ) → 0 < var_of l → var_of l ≤ declared → l < length values
  pub valued : (l : ℕ) → slice_index_or values l None ≡ value_on t l
