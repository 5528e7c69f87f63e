-- The desks of tests are whole for the models that they have.
use Rattle.std.proofs.Common.{ℕ, ◌≡◌, ◌||◌, Bool, List, ◌∷◌, [], true, false, eqb, refl, inl, inr, subst}
use Rattle.std.proofs.lemmas.Bool.{or_cases, eqb-true, false≢true}
use Rattle.std.proofs.lemmas.List.Elements.{All-nil, All-cons}
use Rattle.std.specs.Prelude.{is_some}
use Rattle.sat_terms.specs.Literal.{has, pos_lit, neg}
use Rattle.sat_terms.specs.Truth.{values, lit_true}
use Rattle.user_propagator.specs.declared.seen.Seen.{Seen}
use Rattle.user_propagator.specs.Board.{trail_value}
use Rattle.user_propagator.specs.Meaning.{IsWhole}
use Rattle.user_propagator.proofs.Lawful.{each_of_two}
use Rattle.card_propagator.specs.Boards.{kept_by, broken_by, told}

-- what holds of three numbers holds of each member of their list
each_of_three : (P : ℕ → Type 0) (a b c l : ℕ) → P a → P b → P c → has (a ∷ b ∷ c ∷ []) l ≡ true → P l
each_of_three P a b c l pa pb pc h =
    elim (or_cases (eqb a l) (has (b ∷ c ∷ []) l) h) [
      | inl e ↦ subst P (eqb-true a l e) pa
      | inr more ↦ each_of_two P b c l pb pc more
    ]

pub whole_kept : IsWhole kept_by (false ∷ true ∷ true ∷ [])
unfolding pos_lit neg values lit_true
whole_kept = record {
  each = λ v. each_of_three (λ u. is_some (trail_value kept_by.seen (pos_lit u)) ≡ true) 1 2 3 v refl refl refl;
  agrees =
      (let P : Seen → Type 0 = λ x. lit_true (values (false ∷ true ∷ true ∷ [])) x.lit ≡ true in
      All-cons P (told 3 1 true) (told 4 1 false ∷ told 6 1 false ∷ []) refl (All-cons P (told 4 1 false) (told 6 1 false ∷ []) refl (All-cons P (told 6 1 false) [] refl (All-nil P))));
}

pub whole_broken : IsWhole broken_by (false ∷ false ∷ true ∷ [])
unfolding pos_lit neg values lit_true
whole_broken = record {
  each = λ v. each_of_three (λ u. is_some (trail_value broken_by.seen (pos_lit u)) ≡ true) 1 2 3 v refl refl refl;
  agrees =
      (let P : Seen → Type 0 = λ x. lit_true (values (false ∷ false ∷ true ∷ [])) x.lit ≡ true in
      All-cons P (told 3 1 true) (told 5 2 true ∷ told 6 2 false ∷ []) refl (All-cons P (told 5 2 true) (told 6 2 false ∷ []) refl (All-cons P (told 6 2 false) [] refl (All-nil P))));
}
