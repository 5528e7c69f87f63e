-- What the tests keep: lists that follow a trail of 600 variables over a store.
use Rattle.std.specs.Prelude.{◌≡◌, ◌≤◌, List, Option}
use Rattle.clause_store.specs.Stored.{Stored}
use Rattle.trail_state.specs.Trail.{Trace}
use Rattle.watch_lists.specs.Propagation.{Watching, Follows, AllReady}

pub record IsSound (w : Watching) (s : List (Option Stored)) (t : Trace) : Type 0 where
  pub ready : AllReady w.attached s 600
  pub declared : t.declared ≡ 600
  pub known : 600 ≤ w.declared
  pub following : Follows w s t
