-- The queue: a ring of the variables in the order of their last bump. The place 0 of its tables
-- stands before the oldest and behind the newest of them.
use Rattle.std.specs.Prelude.{◌≡◌, ◌≢◌, ◌<◌, ◌≤◌, ◌+◌, ◌^◌, ℕ, List, length, slice_index_or}
use Rattle.sat_terms.specs.Limits.{max_var}

-- what a table has at a place, 0 past its end
abbrev pub at : List ℕ → ℕ → ℕ
at xs k = slice_index_or xs k 0

-- what contracts see of the queue: how many variables it has, for how many places there is room,
-- the cursor, the stamps of the variables, and the last stamp
pub record Line : Type 0 where
  pub count : ℕ
  pub room : ℕ
  pub cursor : ℕ
  pub stamps : List ℕ
  pub last : ℕ

-- One variable has the greatest stamp: it is the newest. The others have the stamps that they had.
pub record IsNewest (old new : Line) (v : ℕ) : Type 0 where
  pub newest : (u : ℕ) → u ≤ new.count → at new.stamps u ≤ at new.stamps v
  pub others : (u : ℕ) → u ≢ v → at new.stamps u ≡ at old.stamps u

-- the search for a variable, which goes from the cursor to older ones, comes to this one
pub record IsAhead (q : Line) (v : ℕ) : Type 0 where
  pub known : v ≤ q.count
  pub older : at q.stamps v ≤ at q.stamps q.cursor

-- whatever was ahead still is
abbrev pub KeepsAhead : Line → Line → Type 0
KeepsAhead old new = (v : ℕ) → IsAhead old v → IsAhead new v

-- The variables 1 to count stand in a ring through 0, by rising stamps, none of which is above
-- `last`.
pub record IsRing (prev next stamp : ℕ → ℕ) (count last : ℕ) : Type 0 where
  pub root : stamp 0 ≡ 0
  pub stamped : (v : ℕ) → 0 < v → v ≤ count → 0 < stamp v
  pub below : (v : ℕ) → v ≤ count → stamp v ≤ last
  pub apart : (u v : ℕ) → u ≤ count → v ≤ count → stamp u ≡ stamp v → u ≡ v
  pub prev_in : (v : ℕ) → v ≤ count → prev v ≤ count
  pub next_in : (v : ℕ) → v ≤ count → next v ≤ count
  pub next_prev : (v : ℕ) → v ≤ count → next (prev v) ≡ v
  pub prev_next : (v : ℕ) → v ≤ count → prev (next v) ≡ v
  pub older : (v : ℕ) → 0 < v → v ≤ count → stamp (prev v) < stamp v
  pub between : (u v : ℕ) → u ≤ count → 0 < v → v ≤ count → stamp u < stamp v → stamp u ≤ stamp (prev v)
  pub newest : (u : ℕ) → u ≤ count → stamp u ≤ stamp (prev 0)

-- The tables have the ring, and room for it.
pub record IsQueue (prevs nexts stamps : List ℕ) (count room last cursor : ℕ) : Type 0 where
  pub ring : IsRing (at prevs) (at nexts) (at stamps) count last
  pub prevs_room : room ≤ length prevs
  pub nexts_room : room ≤ length nexts
  pub stamps_room : room ≤ length stamps
  pub within : 0 < count → count < room
  pub few : count ≤ max_var
  pub low : last ≤ 2 ^ 63 + count
  pub known : cursor ≤ count
