-- How the notices are kept: a list of what was told, and a table of places beside it.
use Rattle.std.specs.Prelude.{ℕ, ◌≡◌, ◌≤◌, ◌<◌, true, List, length}
use Rattle.sat_terms.specs.Limits.{max_var}
use Rattle.sat_terms.specs.Literal.{has}
use Rattle.flag_set.specs.Work.{IsPlaced}
use Rattle.user_propagator.specs.declared.seen.Seen.{Seen}
use Rattle.user_propagator.specs.Board.{entry, seen_var}

-- the levels rise along the list
pub record Rises (seen : List Seen) : Type 0 where
  pub each : (i j : ℕ) → i ≤ j → j < length seen → (entry seen i).level ≤ (entry seen j).level

-- the first n entries are those up to a level
pub record IsFront (seen : List Seen) (level n : ℕ) : Type 0 where
  pub within : n ≤ length seen
  pub low : (k : ℕ) → k < n → (entry seen k).level ≤ level
  pub high : (k : ℕ) → n ≤ k → k < length seen → level < (entry seen k).level

-- The table has at each told variable the place of its literal, and at each observed one a place.
-- There is room for as many literals as it has places.
pub record AreNoticed
    (observed : List ℕ) (seen : List Seen) (places : List ℕ) (most level : ℕ) : Type 0 where
  pub placed : IsPlaced seen_var seen places most
  pub rises : Rises seen
  pub below : (k : ℕ) → k < length seen → (entry seen k).level ≤ level
  pub known : (k : ℕ) → k < length seen → has observed (seen_var (entry seen k)) ≡ true
  pub wide : (v : ℕ) → has observed v ≡ true → v < length places
  pub room : level ≤ max_var
