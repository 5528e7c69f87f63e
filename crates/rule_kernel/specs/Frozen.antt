-- Sets of variables, seen as a truth value for each number.
use Rattle.std.specs.Prelude.{ℕ, Bool, List}
use Rattle.flag_set.specs.Flags.{holds}

-- whether a set holds a variable
abbrev pub is_frozen : List Bool → ℕ → Bool
is_frozen flags v = holds flags v
