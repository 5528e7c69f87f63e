-- Questions for reasons: what a row of them does to a bridge, whatever they answer.
use Rattle.std.specs.Prelude.{ℕ, zero, suc, ◌≡◌, ◌≤◌, true, Result, Ok, Err}
use Rattle.user_propagator.specs.Meaning.{next_count}
use Rattle.theory_bridge.specs.declared.stop.AskStop.{AskStop}
use Rattle.theory_bridge.specs.declared.stop.AskStop.TheVariants.{Callbacks, Memory}
use Rattle.theory_bridge.specs.Shown.{Shown, is_out}
use Rattle.theory_bridge.specs.Later.{Later}

-- a count after n more
abbrev pub count_on : ℕ → ℕ → ℕ
count_on zero c = c
count_on (suc n) c = next_count (count_on n c)

-- At most so many reasons were asked for, each a callback. The desk is as it was: the seen trail,
-- the observed variables, the requests and the phases.
pub record Asked (most : ℕ) (old new : Shown) : Type 0 where
  pub calls : ℕ
  pub few : calls ≤ most
  pub count : new.count ≡ count_on calls old.count
  pub asked : new.means.asked ≡ count_on calls old.means.asked
  pub budget : new.budget ≡ old.budget
  pub desk : new.board ≡ old.board
  pub later : Later old.means new.means old.board new.board

-- How a call stopped: it answers Callbacks where no callback is left, and the bridge is spent
-- then; else it is spent as before.
abbrev pub Stopped : AskStop → Shown → Shown → Type 0
Stopped (Callbacks n) old new = (n ≡ new.count) × (is_out new ≡ true) × (new.spent ≡ true)
Stopped Memory old new = new.spent ≡ old.spent

-- how a call ended
abbrev pub Ended : {A : Type 0} → Result A AskStop → Shown → Shown → Type 0
Ended (Ok a) old new = new.spent ≡ old.spent
Ended (Err e) old new = Stopped e old new
