-- Sets of numbers, seen as one truth value for each number.
use Rattle.std.specs.Prelude.{ℕ, Bool, false, List, slice_index_or}

-- whether a set holds a number
abbrev pub holds : List Bool → ℕ → Bool
holds set n = slice_index_or set n false
