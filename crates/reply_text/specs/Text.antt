-- The text of replies.
use Rattle.std.specs.Prelude.{ℕ, ◌+◌, ◌-◌, ◌%◌, ◌==◌, ℤ, pos, negsuc, Bool, false, if◌then◌else◌, List, [], ◌∷◌, ◌++◌, codes, map, length, replicate}
use Rattle.std.specs.Fmt.{decimal}
use Rattle.sat_terms.specs.Literal.{var_of}
use Rattle.io_edge.specs.Wrapped.{wrap}
use Rattle.reply_text.specs.Reply.{Reply, Sat, Unsat, Unknown}

-- a literal as the number that DIMACS writes
abbrev pub number_of : ℕ → ℤ
number_of l = if l % 2 == 0 then pos (var_of l) else negsuc (var_of l - 1)

-- the number of the literal of a variable that this value makes true
abbrev pub value_number : ℕ → Bool → ℤ
value_number v b = if b then pos v else negsuc (v - 1)

-- the numbers of the literals of the variables from n on that these truth values make true
abbrev pub true_numbers : ℕ → List Bool → List ℤ
true_numbers n [] = []
true_numbers n (b ∷ bs) = value_number n b ∷ true_numbers (n + 1) bs

-- truth values of at least so many variables: those past the end are false
abbrev pub padded : ℕ → List Bool → List Bool
padded n m = m ++ replicate (n - length m) false

-- what is printed for a reply
abbrev pub reply_text : Reply → List ℕ
reply_text (Sat m) = codes "s SATISFIABLE\n" ++ wrap (codes "v ") (true_numbers 1 m)
reply_text (Unsat core) = codes "s UNSATISFIABLE\n" ++ wrap (codes "f ") (map number_of core)
reply_text (Unknown conflicts) = codes "s UNKNOWN\nc conflicts " ++ (decimal conflicts ++ codes "\n")

-- what is printed behind a model where that is asked for: how many clauses and assumptions it was found to make true
abbrev pub checked_text : ℕ → List ℕ
checked_text count = codes "c checked " ++ (decimal count ++ codes "\n")
