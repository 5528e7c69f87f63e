-- The desk on which two variables are false: how it comes about, and that it is whole for the
-- model that has them false.
use Rattle.std.proofs.Common.{ℕ, ◌≡◌, ◌∷◌, [], Option, Some, true, false, eqb, inl, inr, refl, sym, ◌∙◌, subst}
use Rattle.std.proofs.lemmas.Bool.{cases_Bool, eqb-true, false≢true}
use Rattle.std.proofs.lemmas.List.Elements.{All-nil, All-cons}
use Rattle.std.specs.Prelude.{All, IfSome, is_some}
use Rattle.sat_terms.specs.Literal.{has, pos_lit, neg_lit, neg, var_of}
use Rattle.sat_terms.specs.Truth.{values, lit_true}
use Rattle.user_propagator.specs.declared.seen.Seen.{Seen}
use Rattle.user_propagator.specs.Board.{Board, empty_board, trail_value, with_var}
use Rattle.user_propagator.specs.Meaning.{CanPut, IsWhole, put_on}
use Rattle.test_boxes.specs.Pair.{both_false, told}

-- both variables are observed
abbrev pub both_known : Board
both_known = record empty_board { observed = 1 ∷ 2 ∷ [] }

pub some_is : (r : Option ℕ) (v n : ℕ) → r ≡ Some v → IfSome r (λ x. x ≡ n) → v ≡ n
some_is r v n e h = subst (λ q. IfSome q (λ x. x ≡ n)) e h

pub known_both : (a b c : Board) (v w : ℕ) → a ≡ empty_board → b ≡ record a { observed = with_var a.observed v } → c ≡ record b { observed = with_var b.observed w } → v ≡ 1 → w ≡ 2 → c ≡ both_known
known_both a b c v w h i j p q = rw (j, i, h, p, q) refl

pub put_first : (b : Board) (l v : ℕ) → b ≡ both_known → l ≡ neg_lit v → v ≡ 1 → CanPut b l
unfolding var_of neg_lit
put_first b l v h i p = rw (h, i, p) (refl, refl)

pub put_second : (b c : Board) (l m v w : ℕ) → b ≡ both_known → c ≡ put_on b l false → l ≡ neg_lit v → m ≡ neg_lit w → v ≡ 1 → w ≡ 2 → CanPut c m
unfolding var_of neg_lit neg
put_second b c l m v w h j i k p q = rw (j, h, i, k, p, q) (refl, refl)

pub false_both : (b c d : Board) (l m v w : ℕ) → b ≡ both_known → c ≡ put_on b l false → d ≡ put_on c m false → l ≡ neg_lit v → m ≡ neg_lit w → v ≡ 1 → w ≡ 2 → d ≡ both_false
unfolding neg_lit
false_both b c d l m v w h j n i k p q = rw (n, j, h, i, k, p, q) refl

-- a variable that is one of two has what both have
of_two : (P : ℕ → Type 0) (v : ℕ) → P 1 → P 2 → has (1 ∷ 2 ∷ []) v ≡ true → P v
of_two P v one two h =
    elim (cases_Bool (eqb 1 v)) [
      | inl y ↦ subst P (eqb-true 1 v y) one
      | inr n ↦ elim (cases_Bool (eqb 2 v)) [
        | inl y ↦ subst P (eqb-true 2 v y) two
        | inr m ↦ absurd (false≢true (let z : has (1 ∷ 2 ∷ []) v ≡ false = rw (n, m) refl in sym z ∙ h))
      ]
    ]

all_two : (P : Seen → Type 0) (x y : Seen) → P x → P y → All P (x ∷ y ∷ [])
all_two P x y p q = All-cons P x (y ∷ []) p (All-cons P y [] q (All-nil P))

pub whole_false : IsWhole both_false (false ∷ false ∷ [])
unfolding pos_lit neg values lit_true
whole_false = record {
  each = λ v. of_two (λ u. is_some (trail_value both_false.seen (pos_lit u)) ≡ true) v refl refl;
  agrees = all_two (λ x. lit_true (values (false ∷ false ∷ [])) x.lit ≡ true) (told 3) (told 5) refl refl;
}
