-- Laws of truth.
use Rattle.std.proofs.Common.{◌≡◌, ℕ, ◌/◌, ◌%◌, Bool, true, false, not, eqb, List, [], ◌∷◌, inl, inr, refl, sym, ap, ◌∙◌, arith}
use Rattle.std.proofs.lemmas.Bool.{or_cases, or_left, or_right, false≢true, eqb-true, eq-eqb, cases_eq}
use Rattle.sat_terms.specs.Literal.{neg, has}
use Rattle.sat_terms.specs.Truth.{Assignment, lit_true, clause_true}

pub lit_true-even : (f : Assignment) (l : ℕ) → l % 2 ≡ 0 → lit_true f l ≡ f (l / 2)
unfolding lit_true
lit_true-even f l h = rw h refl

pub lit_true-odd : (f : Assignment) (l : ℕ) → l % 2 ≡ 1 → lit_true f l ≡ not (f (l / 2))
unfolding lit_true
lit_true-odd f l h = rw h refl

pub lit_true-neg : (f : Assignment) (l : ℕ) → lit_true f (neg l) ≡ not (lit_true f l)
unfolding neg
lit_true-neg f l =
    elim (cases_eq (l % 2) 0) [
      | inl h ↦
          let o : (neg l) % 2 ≡ 1 = omega arith in
          let s : (neg l) / 2 ≡ l / 2 = omega arith in
          lit_true-odd f (neg l) o ∙ ap (λ v. not (f v)) s ∙ ap not (sym (lit_true-even f l h))
      | inr n ↦
          let o : (neg l) % 2 ≡ 0 = omega arith in
          let s : (neg l) / 2 ≡ l / 2 = omega arith in
          let h : l % 2 ≡ 1 = omega arith in
          lit_true-even f (neg l) o ∙ ap f s ∙ sym (ap not (lit_true-odd f l h) ∙ not-not (f (l / 2)))
    ] where
      not-not : (b : Bool) → not (not b) ≡ b
      not-not true = refl
      not-not false = refl

-- truth of clauses
pub clause_true-from : (f : Assignment) (c : List ℕ) (l : ℕ) → has c l ≡ true → lit_true f l ≡ true → clause_true f c ≡ true
clause_true-from f [] l h t = absurd (false≢true h)
clause_true-from f (x ∷ c) l h t =
    elim (or_cases (eqb x l) (has c l) h) [
      | inl e ↦ or_left (lit_true f x) (clause_true f c) (rw (eqb-true x l e) t)
      | inr h' ↦ or_right (lit_true f x) (clause_true f c) (clause_true-from f c l h' t)
    ]

pub clause_true-some : (f : Assignment) (c : List ℕ) → clause_true f c ≡ true → (l : ℕ) × (has c l ≡ true) × (lit_true f l ≡ true)
clause_true-some f [] h = absurd (false≢true h)
clause_true-some f (x ∷ c) h =
    elim (or_cases (lit_true f x) (clause_true f c) h) [
      | inl t ↦ (x, or_left (eqb x x) (has c x) (eq-eqb x x refl), t)
      | inr h' ↦
          let r = clause_true-some f c h' in
          (r.0, or_right (eqb x r.0) (has c r.0) r.1, r.2)
    ]
