-- Laws of saved phases.
use Rattle.std.proofs.Common.{◌≡◌, ◌≢◌, ℕ, ◌%◌, ◌<◌, Bool, true, false, cond, eqb, List, length, set, Option, Some, None, inl, inr, refl, sym, ap, ◌∙◌, arith}
use Rattle.std.proofs.lemmas.Bool.{eqb-true, eqb-false, eq-eqb, ne_eqb, cases_eq}
use Rattle.std.proofs.lemmas.List.{get_or-set_same, get_or-set_other}
use Rattle.sat_terms.specs.Literal.{var_of, pos_lit, neg_lit}
use Rattle.user_propagator.specs.Board.{in_phase, phase_on}

-- a literal by its variable and its sign
positive_is : (l : ℕ) → l % 2 ≡ 0 → pos_lit (var_of l) ≡ l
unfolding var_of pos_lit
positive_is l h = omega arith

negative_is : (l : ℕ) → l % 2 ≢ 0 → neg_lit (var_of l) ≡ l
unfolding var_of neg_lit
negative_is l h = omega arith

phase_is : (l : ℕ) (b : Bool) → b ≡ eqb (l % 2) 0 → in_phase (var_of l) (Some b) ≡ Some l
phase_is l true h = ap Some (positive_is l (eqb-true (l % 2) 0 (sym h)))
phase_is l false h = ap Some (negative_is l (eqb-false (l % 2) 0 (sym h)))

-- one phase is set
pub phase_set : (phases : List (Option Bool)) (at l v : ℕ) (b : Bool) → at ≡ var_of l → b ≡ eqb (l % 2) 0 → at < length phases → phase_on (set phases at (Some b)) v ≡ cond (eqb v (var_of l)) (Some l) (phase_on phases v)
phase_set phases at l v b is sign in' =
    elim (cases_eq v (var_of l)) [
      | inl e ↦ rw (eq-eqb v (var_of l) e, e, is, get_or-set_same phases (var_of l) (Some b) None (omega arith)) (phase_is l b sign)
      | inr n ↦ rw (ne_eqb v (var_of l) n, get_or-set_other phases at v (Some b) None (λ e. n (e ∙ is))) refl
    ]
