-- Number words: an optional - and decimal digits, as in DIMACS.
use Rattle.std.specs.Prelude.{◌≤◌, ℕ, ◌+◌, ◌-◌, ◌*◌, ◌==◌, ◌&&◌, nat_lt, nat_le, Bool, true, false, not, if◌then◌else◌, List, [], ◌∷◌}
use Rattle.std.specs.List.{list_all}
use Rattle.sat_terms.specs.Limits.{max_var}
use Rattle.sat_terms.specs.Literal.{pos_lit, neg_lit}
use Rattle.icnf_reader.specs.declared.numbers.LitWord.{LitWord}
use Rattle.icnf_reader.specs.declared.numbers.LitWord.TheVariants.{Zero, Literal, Large, Other}
use Rattle.icnf_reader.specs.declared.numbers.PlainWord.{PlainWord}
use Rattle.icnf_reader.specs.declared.numbers.PlainWord.TheVariants as plain

abbrev pub is_digit : ℕ → Bool
is_digit b = nat_le 48 b && nat_le b 57

-- one or more decimal digits
abbrev pub are_digits : List ℕ → Bool
are_digits [] = false
are_digits (b ∷ bs) = list_all is_digit (b ∷ bs)

-- the number that digits write, after others that write n
abbrev pub number_from : ℕ → List ℕ → ℕ
number_from n [] = n
number_from n (b ∷ bs) = number_from (10 * n + (b - 48)) bs

-- a number above 0 in its place, with a sign or without
abbrev pub signed : Bool → ℕ → LitWord
signed negative n = if nat_lt max_var n then Large else if negative then Literal (neg_lit n) else Literal (pos_lit n)

-- digits without a sign: those of value 0 are the zero that ends a statement
abbrev pub unsigned_place : List ℕ → LitWord
unsigned_place bs = if not (are_digits bs) then Other else if number_from 0 bs == 0 then Zero else signed false (number_from 0 bs)

-- digits behind a -
abbrev pub negative_place : List ℕ → LitWord
negative_place bs = if not (are_digits bs) then Other else if number_from 0 bs == 0 then Other else signed true (number_from 0 bs)

-- what a word is in a literal's place
abbrev pub place_of : List ℕ → LitWord
place_of [] = Other
place_of (b ∷ bs) = if b == 45 then negative_place bs else unsigned_place (b ∷ bs)

-- what a word is in the place of a number without a sign, which is at most this
abbrev pub plain_place : ℕ → List ℕ → PlainWord
plain_place most bs = if not (are_digits bs) then plain.Other else if nat_lt most (number_from 0 bs) then plain.Large else plain.Value (number_from 0 bs)

-- a number that is at most this, or no number
abbrev pub IsAtMost : ℕ → PlainWord → Type 0
IsAtMost most (plain.Value n) = n ≤ most
IsAtMost most plain.Large = Unit {0}
IsAtMost most plain.Other = Unit {0}
