-- The limits that every layer keeps to.
use Rattle.std.specs.Prelude.{ℕ}

-- the greatest variable, 2^22 - 1
abbrev pub max_var : ℕ
max_var = 4194303

-- the most literals that one input or one solver takes, 2^27
abbrev pub max_literals : ℕ
max_literals = 134217728

-- the greatest number that is stated or counted, 2^62; a budget of this number is none
abbrev pub max_number : ℕ
max_number = 4611686018427387904

-- the most bytes of a line before its LF, 2^24
abbrev pub max_line : ℕ
max_line = 16777216

-- the most bytes of an input, 2^40
abbrev pub max_input : ℕ
max_input = 1099511627776
