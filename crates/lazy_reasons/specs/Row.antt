-- A row of questions for reasons.
use Rattle.std.specs.Prelude.{◌≡◌, ℕ, List, Option}
use Rattle.clause_store.specs.Stored.{Stored}
use Rattle.trail_state.specs.declared.trail.Step.{Step}
use Rattle.theory_bridge.specs.Shown.{Shown}
use Rattle.theory_bridge.specs.Going.{Asked}
use Rattle.lazy_reasons.specs.Facing.{IsReady}

-- At most so many questions were answered, and what the next one rests on stands.
pub record Row (most : ℕ) (s : List (Option Stored)) (t : List Step) (old new : Shown) : Type 0 where
  pub asked : Asked most old new
  pub spent : new.spent ≡ old.spent
  pub ready : IsReady s t new
