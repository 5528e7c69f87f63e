-- The literals that an analysis met are false.
use Rattle.std.proofs.Common.{◌≡◌, ℕ, true, eqb, List, [], ◌∷◌, ◌++◌, take, drop, inl, inr, subst, ◌∙◌}
use Rattle.std.proofs.lemmas.Bool.{false≢true, or_left, eqb-true}
use Rattle.std.proofs.lemmas.List.{take-append-drop}
use Rattle.std.proofs.lemmas.List.Folds.{list_any-append}
use Rattle.std.proofs.Math.Bool.{or-false}
use Rattle.sat_terms.specs.Literal.{neg}
use Rattle.sat_terms.proofs.Members.{has-append_cases}
use Rattle.trail_state.specs.declared.trail.Step.{Step}
use Rattle.trail_state.specs.Trail.{true_on}
use Rattle.trail_state.specs.Clauses.{FalseOn}

-- what is true on a front is true
true_front : (t : List Step) (n l : ℕ) → true_on (take n t) l ≡ true → true_on t l ≡ true
true_front t n l h = subst (λ q. true_on q l ≡ true) (take-append-drop n t) (list_any-append (λ x. eqb x.lit l) (take n t) (drop n t) ∙ or_left (true_on (take n t) l) (true_on (drop n t) l) h)

-- one more that is false on a front
pub met_more : (t : List Step) (c : List ℕ) (l below : ℕ) → true_on (take below t) (neg l) ≡ true → FalseOn t c → FalseOn t (c ++ l ∷ [])
met_more t c l below off h k m =
    elim (has-append_cases c (l ∷ []) k m) [
      | inl a ↦ h k a
      | inr b ↦ subst (λ x. true_on t (neg x) ≡ true) (eqb-true l k (rw or-false at b)) (true_front t below (neg l) off)
    ]

-- none is false
pub met_none : (t : List Step) (c : List ℕ) → c ≡ [] → FalseOn t c
met_none t c e l h = absurd (false≢true (rw e at h))
