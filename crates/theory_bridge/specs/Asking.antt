-- One callback of the propagator.
use Rattle.std.specs.Prelude.{ℕ, ◌≡◌, ◌≤◌, true, [], All}
use Rattle.user_propagator.specs.Board.{Board}
use Rattle.user_propagator.specs.Meaning.{CalledBack, OnlyAsks, IsFalseOrUnit, next_count}
use Rattle.theory_bridge.specs.Shown.{Shown}
use Rattle.theory_bridge.specs.Going.{count_on}
use Rattle.theory_bridge.specs.Later.{Later}

-- a callback that asks for a reason, and leaves the desk as it was
pub record OneCall (old new : Shown) : Type 0 where
  pub called : CalledBack old.means new.means old.board new.board
  pub count : new.count ≡ next_count old.count
  pub budget : new.budget ≡ old.budget
  pub board : new.board ≡ old.board

-- a callback that may leave requests on the desk
pub record OneCallback (old new : Shown) : Type 0 where
  pub called : CalledBack old.means new.means old.board new.board
  pub count : new.count ≡ next_count old.count
  pub budget : new.budget ≡ old.budget

-- each clause that lies on the desk is false on the seen trail, or unit there
pub record AreUrgent (b : Board) : Type 0 where
  pub clauses : All (λ h. IsFalseOrUnit b.seen h.clause) b.handed

-- What a steady propagator leaves on a desk: it asks for no variable and for no way back, and
-- where no clause waited, those that do are urgent.
pub record AsksSteadily (was now : Board) : Type 0 where
  pub wanted : now.wanted ≡ was.wanted
  pub back : now.back ≡ was.back
  pub urgent : was.handed ≡ [] → AreUrgent now

-- What a question does, whatever it answers: at most one callback, which only adds requests.
pub record Consulted (old new : Shown) : Type 0 where
  pub calls : ℕ
  pub few : calls ≤ 1
  pub count : new.count ≡ count_on calls old.count
  pub asked : new.means.asked ≡ count_on calls old.means.asked
  pub budget : new.budget ≡ old.budget
  pub later : Later old.means new.means old.board new.board
  pub desk : OnlyAsks old.board new.board
  pub steady : old.means.steady ≡ true → AsksSteadily old.board new.board
