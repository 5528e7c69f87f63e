-- What notifications do to a bridge.
use Rattle.std.specs.Prelude.{ℕ, zero, suc, ◌≡◌, ◌+◌, ◌<◌, ◌≤◌, ◌⊎◌, ◌++◌, None, Bool, true, false, is_some, List, length}
use Rattle.trail_state.specs.Trail.{Trace, step}
use Rattle.user_propagator.specs.declared.seen.Seen.{Seen}
use Rattle.user_propagator.specs.Board.{Board, trail_value}
use Rattle.user_propagator.specs.Meaning.{Notified, KeepsExplained, InStep, next_count}
use Rattle.user_propagator.specs.Meaning.{put_on, raise_on, cut_to}
use Rattle.theory_bridge.specs.Shown.{Shown, is_out}
use Rattle.theory_bridge.specs.Going.{count_on}
use Rattle.theory_bridge.specs.Following.{Follows, AreTold, AreFlagged, IsTold, is_watched}

-- A counted notification that leads to this desk: one was left, and what is explained on the seen
-- trail that both have is explained still.
pub record Notice (kept : List Seen) (desk : Board) (old new : Shown) : Type 0 where
  pub left : is_out old ≡ false
  pub notified : Notified old.means new.means
  pub explained : KeepsExplained old.means new.means kept
  pub in_step : InStep new.means new.board
  pub board : new.board ≡ desk
  pub count : new.count ≡ next_count old.count
  pub budget : new.budget ≡ old.budget

-- a level was opened
abbrev pub TellsLevel : Shown → Shown → Type 0
TellsLevel old new = Notice old.board.seen (raise_on old.board) old new

-- a literal was told; it is explained now if that was said of it at the seen trail before it
pub record TellsLit (l : ℕ) (decision : Bool) (old new : Shown) : Type 0 where
  pub notice : Notice old.board.seen (put_on old.board l decision) old new
  pub told : old.means.explains old.board.seen l ≡ true
      → new.means.explains old.board.seen l ≡ true

-- the seen trail was cut back to a level
abbrev pub TellsBack : ℕ → Shown → Shown → Type 0
TellsBack level old new =
    Notice (cut_to old.board level).seen (cut_to old.board level) old new

-- so many levels and literals were told, one after another
abbrev pub Row : ℕ → Shown → Shown → Type 0
Row zero old new = new ≡ record old { spent = new.spent }
Row (suc n) old new =
    (mid : Shown) × Row n old mid
    × (TellsLevel mid new ⊎ ((l : ℕ) × (decision : Bool) × TellsLit l decision mid new))

-- a row of levels and literals was told
pub record Tells (old new : Shown) : Type 0 where
  pub notices : ℕ
  pub row : Row notices old new

-- What that comes to: what is admitted stays, and all of the desk but the seen trail, which is
-- longer by as much as was counted; and what was explained is explained still.
pub record Told (old new : Shown) : Type 0 where
  pub admits : new.means.admits ≡ old.means.admits
  pub scope : new.means.scope ≡ old.means.scope
  pub kinds : new.means.kinds ≡ old.means.kinds
  pub steady : new.means.steady ≡ old.means.steady
  pub accepted : new.means.accepted ≡ old.means.accepted
  pub explained : KeepsExplained old.means new.means old.board.seen
  pub board : new.board ≡ record old.board { seen = new.board.seen; level = new.board.level }
  pub more : List Seen
  pub seen : new.board.seen ≡ old.board.seen ++ more
  pub levels : ℕ
  pub level : new.board.level ≡ old.board.level + levels
  pub count : new.count ≡ count_on (length more + levels) old.count
  pub asked : new.means.asked ≡ count_on (length more + levels) old.means.asked
  pub budget : new.budget ≡ old.budget

-- The closing notice: the seen trail is cut back to the root, and a request to go back is off the
-- desk. It is not counted.
pub record Closes (old new : Shown) : Type 0 where
  pub notified : Notified old.means new.means
  pub explained : KeepsExplained old.means new.means (cut_to old.board 0).seen
  pub board : new.board ≡ record (cut_to old.board 0) { back = None }
  pub count : new.count ≡ old.count
  pub budget : new.budget ≡ old.budget
  pub spent : new.spent ≡ old.spent

-- The walk along the trail stands at a place: what is observed before it was told, and what stands
-- from there on is not below the level that was told.
pub record Walks (t : Trace) (place : ℕ) (s : Shown) : Type 0 where
  pub in_step : InStep s.means s.board
  pub follows : Follows s.board t
  pub told : AreTold s.board t.steps place
  pub rest : (j : ℕ) → place ≤ j → j < length t.steps → s.board.level ≤ (step t.steps j).level

-- each observed literal below a level was told
pub record AreToldBelow (b : Board) (t : Trace) (level : ℕ) : Type 0 where
  pub each : (i : ℕ) → i < length t.steps → (step t.steps i).level < level
      → is_watched b (step t.steps i) ≡ true → IsTold b.seen (step t.steps i).lit

-- a literal of the desk's level, above the root, that was told
pub record WasTold (b : Board) (t : Trace) (start place : ℕ) : Type 0 where
  pub above : 0 < b.level
  pub after : start ≤ place
  pub inside : place < length t.steps
  pub valued : is_some (trail_value b.seen (step t.steps place).lit) ≡ true

-- what a part of the walk does, whatever it answers
pub record WalksOn (t : Trace) (old new : Shown) : Type 0 where
  pub tells : Tells old new
  pub flags : (from : ℕ) → AreFlagged t.steps from old.board.seen
      → AreFlagged t.steps from new.board.seen
  pub in_step : InStep new.means new.board
  pub follows : Follows new.board t
