-- What holds of every solver between two calls.
use Rattle.std.specs.Prelude.{◌≡◌, ℕ, ◌≤◌, Bool, true, List, []}
use Rattle.sat_terms.specs.Limits.{max_var, max_literals}
use Rattle.sat_terms.specs.Truth.{Assignment}
use Rattle.sat_terms.specs.Answer.{Within, NoModel, IsModel}
use Rattle.clause_store.specs.Stored.{FirmTrue, StoreTrue}
use Rattle.search_engine.specs.Searching.{StoreWithin}
use Rattle.solver_api.specs.declared.givens.GivenPart.{GivenPart}
use Rattle.solver_api.specs.declared.mode.Mode.{Mode}
use Rattle.solver_api.specs.declared.mode.Mode.TheVariants.{Sat, Unsat}
use Rattle.solver_api.specs.Given.{GivenTrue}
use Rattle.solver_api.specs.Held.{Held}

-- The stored clauses stand for what was given: what makes this true makes them all true, and what makes the firm ones true makes it
-- true. Their variables are among the first n, and no more are declared.
pub record StandsFor (held : Held) (given : List GivenPart) (n : ℕ) : Type 0 where
  pub follows : (f : Assignment) → GivenTrue given f → StoreTrue held.store f
  pub suffices : (f : Assignment) → FirmTrue held.store f → GivenTrue given f
  pub within : StoreWithin n held.store
  pub declared : held.declared ≤ n

pub record Stands (engine : Held) (given : List GivenPart) (pending queried : List ℕ) (taken greatest : ℕ) (settled : Bool) (mode : Mode) : Type 0 where
  pub stored : StandsFor engine given greatest
  -- every variable of an assumption is at most the greatest named one
  pub pending_within : Within greatest pending
  pub few : greatest ≤ max_var
  pub room : taken ≤ max_literals
  -- the model that is shown is one of what was given and of the assumptions
  pub model_good : (m : List Bool) → mode ≡ Sat m → IsModel (GivenTrue given) queried greatest m
  -- no assignment makes what was given and the core that is shown true
  pub core_good : (core : List ℕ) → mode ≡ Unsat core → NoModel (GivenTrue given) core
  -- a settled solver was given what no assignment makes true
  pub hopeless : settled ≡ true → NoModel (GivenTrue given) []
