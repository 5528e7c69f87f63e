-- Literals. DIMACS writes the variable v as the number v and its negation as -v, for v from 1 on. Here a literal is seen
-- as its code, which is 2v for v and 2v + 1 for -v.
use Rattle.std.specs.List.{list_any}
use Rattle.std.specs.Prelude.{ℕ, ◌+◌, ◌-◌, ◌*◌, ◌/◌, ◌%◌, ◌^◌, ◌<◌, ◌≤◌, ◌==◌, Bool, List, ℤ, pos, negsuc}
use Rattle.sat_terms.specs.Limits.{max_var}

-- the numbers of variables
abbrev pub IsVariable : ℕ → Type 0
IsVariable v = (1 ≤ v) × (v ≤ max_var)

-- the codes of literals
abbrev pub IsLiteral : ℕ → Type 0
IsLiteral l = (2 ≤ l) × (l < 2 ^ 23)

-- the variable of a literal
unfoldable pub var_of : ℕ → ℕ
var_of l = l / 2

-- the opposite literal
unfoldable pub neg : ℕ → ℕ
neg l = l + 1 - 2 * (l % 2)

-- the positive literal of a variable, and the negative one
unfoldable pub pos_lit : ℕ → ℕ
pos_lit v = 2 * v

unfoldable pub neg_lit : ℕ → ℕ
neg_lit v = 2 * v + 1

-- the code of the literal that is written as this number
abbrev pub code_of : ℤ → ℕ
code_of (pos n) = 2 * n
code_of (negsuc n) = 2 * (n + 1) + 1

-- whether a list of literals holds a literal
abbrev pub has : List ℕ → ℕ → Bool
has c l = list_any (λ x. x == l) c
