-- Constraints that count positions: repeated and opposite literals count at each place where they stand.
use Rattle.std.specs.Prelude.{ℕ, ◌%◌, ◌==◌, nat_le, Bool, if◌then◌else◌, List, count_by}
use Rattle.sat_terms.specs.Truth.{Assignment, lit_true}

-- how many positions of the list hold a true literal
abbrev pub true_count : Assignment → List ℕ → ℕ
true_count f ls = count_by (lit_true f) ls

-- at least so many positions hold a true literal (the cardinality of a KNF line)
abbrev pub at_least_true : Assignment → ℕ → List ℕ → Bool
at_least_true f bound ls = nat_le bound (true_count f ls)

-- the number of positions that hold a true literal is odd, or it is even
abbrev pub parity_true : Assignment → Bool → List ℕ → Bool
parity_true f odd ls = if odd then (true_count f ls) % 2 == 1 else (true_count f ls) % 2 == 0
