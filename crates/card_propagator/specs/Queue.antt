-- The cardinalities that wait to be looked at.
use Rattle.std.specs.Prelude.{ℕ, ◌≡◌, ◌<◌, ◌==◌, ◌&&◌, true, not, length}
use Rattle.sat_terms.specs.Literal.{has}
use Rattle.flag_set.specs.Work.{Work}

-- one that waited waits no more
pub record TakenOut (old new : Work ℕ) (id : ℕ) : Type 0 where
  pub waited : has old.members id ≡ true
  pub others : (k : ℕ) → has new.members k ≡ (has old.members k && not (id == k))
  pub fewer : length new.members < length old.members
  pub room : new.room ≡ old.room
