-- The desk on which two variables are true is whole for the model that has them true.
use Rattle.std.proofs.Common.{◌≡◌, ◌∷◌, [], true, refl}
use Rattle.std.proofs.lemmas.List.Elements.{All-nil, All-cons}
use Rattle.std.specs.Prelude.{is_some}
use Rattle.sat_terms.specs.Literal.{pos_lit, neg}
use Rattle.sat_terms.specs.Truth.{values, lit_true}
use Rattle.user_propagator.specs.declared.seen.Seen.{Seen}
use Rattle.user_propagator.specs.Board.{trail_value}
use Rattle.user_propagator.specs.Meaning.{IsWhole}
use Rattle.user_propagator.proofs.Lawful.{each_of_two}
use Rattle.group_propagator.specs.Boards.{both_true, told}

pub whole_true : IsWhole both_true (true ∷ true ∷ [])
unfolding pos_lit neg values lit_true
whole_true = record {
  each = λ v. each_of_two (λ u. is_some (trail_value both_true.seen (pos_lit u)) ≡ true) 1 2 v refl refl;
  agrees =
      (let P : Seen → Type 0 = λ x. lit_true (values (true ∷ true ∷ [])) x.lit ≡ true in
      All-cons P (told 2) (told 4 ∷ []) refl (All-cons P (told 4) [] refl (All-nil P)));
}
