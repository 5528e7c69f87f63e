-- Assignments that are changed by setting literals true.
use Rattle.std.specs.Prelude.{◌≡◌, ℕ, true, false, if◌then◌else◌, List}
use Rattle.sat_terms.specs.Literal.{has, neg, pos_lit, neg_lit}
use Rattle.sat_terms.specs.Truth.{Assignment}

-- a list of literals holds no two opposite ones
abbrev pub IsApart : List ℕ → Type 0
IsApart w = (l : ℕ) → has w l ≡ true → has w (neg l) ≡ false

-- the assignment after the literals of a list were set true
unfoldable pub set_true : Assignment → List ℕ → Assignment
set_true f w v = if has w (pos_lit v) then true else if has w (neg_lit v) then false else f v
