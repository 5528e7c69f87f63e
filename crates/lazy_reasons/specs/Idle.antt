-- A box that was told nothing and rules nothing out.
use Rattle.std.specs.Prelude.{◌≡◌, true, []}
use Rattle.sat_terms.specs.Truth.{Assignment}
use Rattle.user_propagator.specs.Meaning.{InStep}
use Rattle.theory_bridge.specs.Shown.{Shown}

-- The box is in step, it was told nothing and observes nothing, and it admits every assignment, now and after each callback.
pub record IsIdle (b : Shown) : Type 0 where
  pub in_step : InStep b.means b.board
  pub admits : (f : Assignment) → b.means.admits f ≡ true
  pub steady : b.means.steady ≡ true
  pub observed : b.board.observed ≡ []
  pub seen : b.board.seen ≡ []
  pub level : b.board.level ≡ 0
