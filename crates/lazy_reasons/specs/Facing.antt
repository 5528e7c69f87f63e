-- What reasons that are given when they are asked for rest on: a trail that a box follows on its seen trail, and that is rooted.
use Rattle.std.specs.Prelude.{◌≡◌, ◌<◌, ℕ, List, length, Option}
use Rattle.clause_store.specs.Stored.{Stored}
use Rattle.trail_state.specs.declared.trail.Step.{Step}
use Rattle.trail_state.specs.declared.reason.Reason.TheVariants.{Theory}
use Rattle.trail_state.specs.Trail.{step}
use Rattle.rooted_trails.specs.Rooted.{RootedUnder}
use Rattle.user_propagator.specs.declared.seen.Seen.{Seen}
use Rattle.user_propagator.specs.Meaning.{Meaning, InStep, StandsAt}
use Rattle.theory_bridge.specs.declared.stop.AskStop.{AskStop}
use Rattle.theory_bridge.specs.declared.stop.AskStop.TheVariants.{Callbacks, Memory}
use Rattle.theory_bridge.specs.Shown.{Shown}
use Rattle.theory_bridge.specs.Following.{Mirrors}

-- every literal above the root that the theory implied stands on the seen trail and is explained there
abbrev pub AreExplained : Meaning → List Seen → List Step → Type 0
AreExplained means seen t = (i : ℕ) → i < length t → 0 < (step t i).level → (step t i).reason ≡ Theory → (k : ℕ) × StandsAt means seen k (step t i).lit

-- what a question for a reason asks of store, trail and bridge, and keeps
pub record IsReady (s : List (Option Stored)) (t : List Step) (b : Shown) : Type 0 where
  pub in_step : InStep b.means b.board
  pub rooted : RootedUnder s b.means.admits t
  pub mirrors : Mirrors b.board.seen t
  pub explained : AreExplained b.means b.board.seen t

-- where a callback could not be made, one was due: a literal stands above the root that the theory implied
abbrev pub IsAskDue : AskStop → List Step → Type 0
IsAskDue (Callbacks n) t = (i : ℕ) × (i < length t) × (0 < (step t i).level) × ((step t i).reason ≡ Theory)
IsAskDue Memory t = Unit {0}
