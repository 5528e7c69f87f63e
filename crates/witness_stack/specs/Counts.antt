-- How often the witnesses of a stack hold each literal.
use Rattle.std.specs.Prelude.{◌≡◌, ℕ, ◌+◌, ◌==◌, List, [], ◌∷◌, count_by, sum_by, slice_index_or}
use Rattle.redundancy.specs.Redundancy.{Entry, IsStack}

-- the count of a literal, and the sum of all counts
abbrev pub count_at : List ℕ → ℕ → ℕ
count_at m l = slice_index_or m l 0

abbrev pub count_sum : List ℕ → ℕ
count_sum m = sum_by (λ n. n) m

-- how often a literal stands in a list
abbrev pub times : List ℕ → ℕ → ℕ
times xs x = count_by (λ y. y == x) xs

-- how often the witnesses of a stack hold a literal
abbrev pub witness_count : List Entry → ℕ → ℕ
witness_count [] l = 0
witness_count (e ∷ later) l = times e.witness l + witness_count later l

-- a reconstruction stack, and how often its witnesses hold each literal
pub record IsCountedStack (s : List Entry) (m : List ℕ) : Type 0 where
  pub stack : IsStack s
  pub counts : (l : ℕ) → count_at m l ≡ witness_count s l
