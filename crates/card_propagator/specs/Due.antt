-- What a look at cardinalities finds.
use Rattle.std.specs.Prelude.{ℕ, ◌≡◌, ◌+◌, ◌<◌, ◌≤◌, List, length, Option, None}
use Rattle.sat_model.specs.declared.constraint.Constraint.{Constraint}
use Rattle.card_propagator.specs.declared.told.Told.{Told}
use Rattle.card_propagator.specs.declared.due.Look.{Look}
use Rattle.card_propagator.specs.declared.due.Look.TheVariants as looks
use Rattle.card_propagator.specs.declared.due.Found.{Found}
use Rattle.card_propagator.specs.declared.due.Found.TheVariants as founds
use Rattle.clause_store.specs.Listing.{times}
use Rattle.card_propagator.specs.Values.{value, falses}
use Rattle.card_propagator.specs.Counting.{bound_at, lits_at, IsSettled}

-- too many positions are false
pub record IsBroken (table : List (Option Told)) (bound : ℕ) (lits : List ℕ) : Type 0 where
  pub short : length lits < bound + falses table lits

-- the unassigned literal is needed
pub record IsForced (table : List (Option Told)) (bound : ℕ) (lits : List ℕ) (l : ℕ) : Type 0 where
  pub free : value table l ≡ None
  pub holds : 0 < times lits l
  pub short : length lits < bound + falses table lits + times lits l

abbrev pub IsLook : List (Option Told) → ℕ → List ℕ → Look → Type 0
IsLook table bound lits looks.Settled = IsSettled table bound lits
IsLook table bound lits looks.Broken = IsBroken table bound lits
IsLook table bound lits (looks.Forced l) = IsForced table bound lits l

pub record AllSettled (rules : List Constraint) (table : List (Option Told)) : Type 0 where
  pub each : (k : ℕ) → k < length rules → IsSettled table (bound_at rules k) (lits_at rules k)

abbrev pub IsFound : List Constraint → List (Option Told) → Found → Type 0
IsFound rules table founds.Nothing = AllSettled rules table
IsFound rules table (founds.Broken k) = (k < length rules) × IsBroken table (bound_at rules k) (lits_at rules k)
IsFound rules table (founds.Forced k l) = (k < length rules) × IsForced table (bound_at rules k) (lits_at rules k) l
