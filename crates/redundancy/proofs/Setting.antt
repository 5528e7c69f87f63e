-- Laws of assignments that are changed by setting literals true. No proof above this crate opens `set_true`.
use Rattle.std.proofs.Common.{◌≡◌, ◌≢◌, ℕ, suc, zero, ◌+◌, ◌-◌, ◌*◌, ◌/◌, ◌%◌, ◌<◌, ◌≤◌, Bool, true, false, ◌||◌, eqb, List, [], ◌∷◌, length, get_or, set, take, ◌⊎◌, inl, inr, refl, sym, ap, ◌∙◌, arith}
use Rattle.std.proofs.lemmas.Bool.{cases_Bool, cases_eq, or_left, or_right, or_parts, or_from, ne_eqb, eq-eqb}
use Rattle.std.proofs.lemmas.List.Elements.{All-get_or}
use Rattle.std.proofs.lemmas.List.Folds.{list_any_more}
use Rattle.std.proofs.Math.Bool.{or-false, or-true}
use Rattle.sat_terms.specs.Literal.{neg, var_of, has, pos_lit, neg_lit}
use Rattle.sat_terms.specs.Truth.{Assignment, values, lit_true, clause_true}
use Rattle.sat_terms.specs.Answer.{Within}
use Rattle.sat_terms.proofs.Truths.{lit_true-even, lit_true-odd, clause_true-from, clause_true-some}
use Rattle.sat_terms.proofs.Models.{values-set}
use Rattle.sat_terms.proofs.Literals.{neg-neg_lit, var_of-pos_lit, var_of-neg_lit}
use Rattle.redundancy.specs.Setting.{IsApart, set_true}

-- truth of a literal under an assignment with literals set
pub set_true-in : (f : Assignment) (w : List ℕ) (l : ℕ) → has w l ≡ true → has w (neg l) ≡ false → lit_true (set_true f w) l ≡ true
unfolding neg set_true pos_lit neg_lit
set_true-in f w l in' out =
    elim (cases_eq (l % 2) 0) [
      | inl h ↦
          let p : l ≡ 2 * (l / 2) = omega arith in
          lit_true-even (set_true f w) l h ∙ rw (← p, in') refl
      | inr n ↦
          let h : l % 2 ≡ 1 = omega arith in
          let p : neg l ≡ 2 * (l / 2) = omega arith in
          let q : l ≡ 2 * (l / 2) + 1 = omega arith in
          lit_true-odd (set_true f w) l h ∙ rw (← q, ← p, out, in') refl
    ]

pub set_true-out : (f : Assignment) (w : List ℕ) (l : ℕ) → has w l ≡ false → has w (neg l) ≡ false → lit_true (set_true f w) l ≡ lit_true f l
unfolding neg set_true pos_lit neg_lit
set_true-out f w l out out' =
    elim (cases_eq (l % 2) 0) [
      | inl h ↦
          let p : l ≡ 2 * (l / 2) = omega arith in
          let q : neg l ≡ 2 * (l / 2) + 1 = omega arith in
          lit_true-even (set_true f w) l h ∙ rw (← q, ← p, out, out') refl ∙ sym (lit_true-even f l h)
      | inr n ↦
          let h : l % 2 ≡ 1 = omega arith in
          let p : neg l ≡ 2 * (l / 2) = omega arith in
          let q : l ≡ 2 * (l / 2) + 1 = omega arith in
          lit_true-odd (set_true f w) l h ∙ rw (← q, ← p, out', out) refl ∙ sym (lit_true-odd f l h)
    ]

-- a true literal stays true where its negation is not set
pub set_true-kept : (f : Assignment) (w : List ℕ) (l : ℕ) → has w (neg l) ≡ false → lit_true f l ≡ true → lit_true (set_true f w) l ≡ true
set_true-kept f w l out h =
    elim (cases_Bool (has w l)) [
      | inl in' ↦ set_true-in f w l in' out
      | inr out' ↦ set_true-out f w l out' out ∙ h
    ]

-- a clause stays true where no negation of its literals is set
pub clause_true-kept : (f : Assignment) (w c : List ℕ) → ((l : ℕ) → has c l ≡ true → has w (neg l) ≡ false) → clause_true f c ≡ true → clause_true (set_true f w) c ≡ true
clause_true-kept f w c clean h =
    let r = clause_true-some f c h in
    clause_true-from (set_true f w) c r.0 r.1 (set_true-kept f w r.0 (clean r.0 r.1) r.2)

-- the two literals of a variable
lit_cases : (x v : ℕ) → var_of x ≡ v → ((x ≡ pos_lit v) × (x % 2 ≡ 0)) ⊎ ((x ≡ neg_lit v) × (x % 2 ≡ 1))
unfolding var_of pos_lit neg_lit
lit_cases x v e =
    elim (cases_eq (x % 2) 0) [ inl h ↦ inl (omega arith, h) | inr h ↦ inr (omega arith, omega arith) ]

pos≢neg : (v : ℕ) → pos_lit v ≢ neg_lit v
unfolding neg_lit pos_lit
pos≢neg v e = absurd (omega arith)

-- membership in the front of a list
has_one_more : (w : List ℕ) (i x l : ℕ) → i < length w → x ≡ get_or w i x → has (take (i + 1) w) l ≡ (has (take i w) l || eqb x l)
has_one_more w i x l in' is = list_any_more (λ y. eqb y l) w i x in' ∙ rw (← is) refl

has_front : (n : ℕ) (w : List ℕ) (l : ℕ) → has w l ≡ false → has (take n w) l ≡ false
has_front zero w l h = refl
has_front (suc n) [] l h = refl
has_front (suc n) (x ∷ w) l h =
    let p = or_parts (eqb x l) (has w l) h in
    or_from (eqb x l) (has (take n w) l) p.0 (has_front n w l p.1)

has_here : (w : List ℕ) (i x : ℕ) → i < length w → x ≡ get_or w i x → has w x ≡ true
has_here [] i x in' is = absurd (omega arith)
has_here (y ∷ w) zero x in' is = or_left (eqb y x) (has w x) (eq-eqb y x (sym is))
has_here (y ∷ w) (suc i) x in' is = or_right (eqb y x) (has w x) (has_here w i x (omega arith) is)

-- one literal more is set
pub set_more : (f : Assignment) (m : List Bool) (w : List ℕ) (i x : ℕ) → IsApart w → Within (length m) w → i < length w → x ≡ get_or w i x → ((v : ℕ) → values m v ≡ set_true f (take i w) v)
    → (v : ℕ) → values (set m (var_of x - 1) (eqb (x % 2) 0)) v ≡ set_true f (take (i + 1) w) v
unfolding set_true
set_more f m w i x apart within in' is before v =
    let here = has_here w i x in' is in
    let near : (1 ≤ var_of x) × (var_of x ≤ length m) = rw is (All-get_or (λ l. (1 ≤ var_of l) × (var_of l ≤ length m)) w i x in' within) in
    let p = has_one_more w i x (pos_lit v) in' is in
    let n = has_one_more w i x (neg_lit v) in' is in
    values-set m (var_of x) v (eqb (x % 2) 0) (omega (arith, near.0)) near.1 ∙
    elim (cases_eq (var_of x) v) [
      | inl e ↦
          elim (lit_cases x v e) [
            | inl h ↦ rw (eq-eqb (var_of x) v e, p, eq-eqb x (pos_lit v) h.0, or-true (has (take i w) (pos_lit v)), eq-eqb (x % 2) 0 h.1) refl
            | inr h ↦
                let off : has (take i w) (pos_lit v) ≡ false = has_front i w (pos_lit v) (ap (has w) (sym (neg-neg_lit v) ∙ ap neg (sym h.0)) ∙ apart x here) in
                let other : x ≢ pos_lit v = λ q. pos≢neg v (sym q ∙ h.0) in
                let odd : eqb (x % 2) 0 ≡ false = ne_eqb (x % 2) 0 (λ z. absurd (let o = h.1 in omega arith)) in
                rw (eq-eqb (var_of x) v e, p, n, eq-eqb x (neg_lit v) h.0, ne_eqb x (pos_lit v) other, off, or-true (has (take i w) (neg_lit v)), odd) refl
          ]
      | inr d ↦
          let a : x ≢ pos_lit v = λ q. d (ap var_of q ∙ var_of-pos_lit v) in
          let b : x ≢ neg_lit v = λ q. d (ap var_of q ∙ var_of-neg_lit v) in
          rw (ne_eqb (var_of x) v d, p, n, ne_eqb x (pos_lit v) a, ne_eqb x (neg_lit v) b, or-false (has (take i w) (pos_lit v)), or-false (has (take i w) (neg_lit v))) (before v)
    ]
