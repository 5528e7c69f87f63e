-- Truth by positions: on a seen trail, and by a table of what was told of each variable.
use Rattle.std.specs.Prelude.{ℕ, Bool, true, false, not, ◌&&◌, List, [], ◌∷◌, Option, Some, None, if◌then◌else◌, nat_eq, nat_le, count_by, slice_index_or}
use Rattle.sat_terms.specs.Literal.{var_of}
use Rattle.user_propagator.specs.Board.{trail_value}
use Rattle.user_propagator.specs.declared.seen.Seen.{Seen}
use Rattle.card_propagator.specs.declared.told.Told.{Told}

abbrev pub is_true : Option Bool → Bool
is_true None = false
is_true (Some b) = b

abbrev pub is_false : Option Bool → Bool
is_false None = false
is_false (Some b) = not b

-- the numbers of true and of false positions of a list on a seen trail
abbrev pub true_count : List Seen → List ℕ → ℕ
true_count seen c = count_by (λ l. is_true (trail_value seen l)) c

abbrev pub false_count : List Seen → List ℕ → ℕ
false_count seen c = count_by (λ l. is_false (trail_value seen l)) c

-- how many positions are open, and how many of these hold another literal than l
abbrev pub open_count : List Seen → List ℕ → ℕ
open_count seen c = count_by (λ x. not (is_false (trail_value seen x))) c

abbrev pub open_but : List Seen → ℕ → List ℕ → ℕ
open_but seen l c = count_by (λ x. not (is_false (trail_value seen x)) && not (nat_eq x l)) c

-- what was told of a variable, by the table
abbrev pub told : List (Option Told) → ℕ → Option Told
told t v = slice_index_or t v None

-- truth of a literal by what was told of its variable
abbrev pub told_value : Option Told → ℕ → Option Bool
told_value None l = None
told_value (Some e) l = Some (nat_eq e.lit l)

abbrev pub value : List (Option Told) → ℕ → Option Bool
value t l = told_value (told t (var_of l)) l

-- the numbers of true and of false positions by the table
abbrev pub trues : List (Option Told) → List ℕ → ℕ
trues t c = count_by (λ l. is_true (told_value (told t (var_of l)) l)) c

abbrev pub falses : List (Option Told) → List ℕ → ℕ
falses t c = count_by (λ l. is_false (told_value (told t (var_of l)) l)) c

-- what is left of what was told, back at a level
abbrev pub keep : ℕ → Option Told → Option Told
keep level None = None
keep level (Some e) = if nat_le e.level level then Some e else None
