-- The heap: the variables in some order, of which the first `size` are in the heap. The tables say
-- which variable stands at a place, and at which place a variable stands.
use Rattle.std.specs.Prelude.{◌≡◌, ◌<◌, ◌≤◌, ℕ, List, length}
use Rattle.sat_terms.specs.Limits.{max_var}
use Rattle.decide_order.specs.Line.{at}

-- what contracts see of the heap
pub record Pile : Type 0 where
  pub count : ℕ
  pub room : ℕ
  pub size : ℕ
  pub items : List ℕ
  pub places : List ℕ

-- a variable is in the heap
pub record IsHeaped (h : Pile) (v : ℕ) : Type 0 where
  pub some : 0 < v
  pub known : v ≤ h.count
  pub inside : at h.places v < h.size

-- whatever was in the heap still is
abbrev pub KeepsHeaped : Pile → Pile → Type 0
KeepsHeaped old new = (v : ℕ) → IsHeaped old v → IsHeaped new v

-- The tables have each of the variables 1 to count at one place below count.
pub record IsOrder (item place : ℕ → ℕ) (count : ℕ) : Type 0 where
  pub item_some : (i : ℕ) → i < count → 0 < item i
  pub item_known : (i : ℕ) → i < count → item i ≤ count
  pub placed : (i : ℕ) → i < count → place (item i) ≡ i
  pub place_in : (v : ℕ) → 0 < v → v ≤ count → place v < count
  pub back : (v : ℕ) → 0 < v → v ≤ count → item (place v) ≡ v

-- The tables of a heap have that order, and room for it.
pub record IsPile (items places scores : List ℕ) (count room size : ℕ) : Type 0 where
  pub order : IsOrder (at items) (at places) count
  pub items_room : room ≤ length items
  pub places_room : room ≤ length places
  pub scores_room : room ≤ length scores
  pub within : 0 < count → count < room
  pub few : count ≤ max_var
  pub sized : size ≤ count
