-- Truth under an assignment (DIMACS).
use Rattle.std.specs.List.{list_any, list_all}
use Rattle.std.specs.Prelude.{◌≡◌, ℕ, ◌/◌, ◌%◌, ◌==◌, Bool, true, false, if◌then◌else◌, not, List, ◌∷◌, slice_index_or}

-- An assignment says of each variable whether it is true.
abbrev pub Assignment : Type 0
Assignment = ℕ → Bool

-- A list of truth values as an assignment: a variable is true if there is a value at its place, counted from 1, and that
-- value is true. So a variable past the end is false.
unfoldable pub values : List Bool → Assignment
values m v = slice_index_or (false ∷ m) v false

-- a variable is true if the assignment says so, and its negation is true if the variable is not
unfoldable pub lit_true : Assignment → ℕ → Bool
lit_true f l = if l % 2 == 0 then f (l / 2) else not (f (l / 2))

-- a clause is true if one of its literals is
abbrev pub clause_true : Assignment → List ℕ → Bool
clause_true f c = list_any (lit_true f) c

-- all of the literals are true
abbrev pub lits_true : Assignment → List ℕ → Bool
lits_true f ls = list_all (lit_true f) ls

-- all of the clauses are true
abbrev pub clauses_true : Assignment → List (List ℕ) → Bool
clauses_true f cs = list_all (clause_true f) cs

-- every assignment of F makes the clause true
abbrev pub Implies : (Assignment → Type 0) → List ℕ → Type 0
Implies F c = (f : Assignment) → F f → clause_true f c ≡ true
