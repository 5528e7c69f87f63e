-- Lists of members, each once, with the place of each beside them (a sparse set: Briggs and Torczon 1993).
use Rattle.std.specs.Prelude.{◌≡◌, ◌<◌, ◌≤◌, ◌+◌, ◌^◌, ◌∷◌, [], ◌++◌, ℕ, List, length, map, slice_index_or, if◌then◌else◌}
use Rattle.flag_set.specs.Listed.{lists}

-- what contracts see of a work list: its members, in order, and the number below which there is room
pub record Work (T : Type 0) : Type 0 where
  pub members : List T
  pub room : ℕ

-- a list with one member more, if it lacks it
abbrev pub with_member : {T : Type 0} → (T → ℕ) → List T → T → List T
with_member number members m = if lists number members (number m) then members else members ++ m ∷ []

-- the number of the member at a place
abbrev pub number_at : {T : Type 0} → (T → ℕ) → List T → ℕ → ℕ
number_at number members k = slice_index_or (map number members) k 0

-- The table has at the number of each member the place where it stands, and there is room for as many members as it has places.
pub record IsPlaced {T : Type 0} (number : T → ℕ) (members : List T) (places : List ℕ) (most : ℕ) : Type 0 where
  pub known : (k : ℕ) → k < length members → number_at number members k < length places
  pub placed : (k : ℕ) → k < length members → slice_index_or places (number_at number members k) 0 ≡ k
  pub room : length places ≤ most
  pub few : length places ≤ 2 ^ 32
