-- What contracts see of a scene, and what its steps do.
use Rattle.std.specs.Prelude.{ℕ, ◌≡◌, ◌+◌, ◌++◌, ◌∷◌, [], List, Option, Some, slice_get}
use Rattle.clause_store.specs.Stored.{Stored}
use Rattle.trail_state.specs.Trail.{Trace}
use Rattle.trail_state.specs.declared.reason.Reason.TheVariants.{Decision, Clause}

pub record Staged : Type 0 where
  pub store : List (Option Stored)
  pub trail : Trace

-- the clause of a number: those of the list are numbered from 1 on
pub record IsNamed (ids : List ℕ) (number id : ℕ) : Type 0 where
  pub place : ℕ
  pub counted : number ≡ place + 1
  pub found : slice_get ids place ≡ Some id

-- the literal was decided, on a new level
pub record Decides (old new : Trace) (lit : ℕ) : Type 0 where
  pub steps : new.steps
      ≡ old.steps ++ record { lit = lit; level = old.level + 1; reason = Decision } ∷ []
  pub level : new.level ≡ old.level + 1
  pub declared : new.declared ≡ old.declared

-- the literal was assigned, as the clause of this id implied it
pub record Assigns (old new : Trace) (lit id : ℕ) : Type 0 where
  pub steps : new.steps
      ≡ old.steps ++ record { lit = lit; level = old.level; reason = Clause id } ∷ []
  pub level : new.level ≡ old.level
  pub declared : new.declared ≡ old.declared
