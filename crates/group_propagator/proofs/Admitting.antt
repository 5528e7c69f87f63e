-- What follows where at most one member of a group is true.
use Rattle.std.proofs.Common.{ℕ, ◌*◌, ◌+◌, ◌≡◌, ◌≢◌, ◌<◌, ◌||◌, ◌&&◌, Bool, true, false, not, eqb, List, [], ◌∷◌, length, take, get_or, inl, inr, refl, sym, ap, ◌∙◌, subst, arith}
use Rattle.std.specs.List.{list_all}
use Rattle.std.proofs.lemmas.Bool.{and_parts, and_from, or_cases, or_left, or_right, cases_Bool, eq-eqb, eqb-true, false≢true}
use Rattle.std.proofs.lemmas.List.Folds.{list_all_more}
use Rattle.sat_terms.specs.Literal.{has, pos_lit, neg_lit}
use Rattle.sat_terms.specs.Truth.{Assignment, lit_true, clause_true}
use Rattle.sat_terms.proofs.Truths.{lit_true-even, lit_true-odd}
use Rattle.group_propagator.specs.Group.{NoTwo, no_two, is_false_or}

-- what holds of all holds of each member, and the other way round
pub all_has : (p : ℕ → Bool) (xs : List ℕ) (v : ℕ) → list_all p xs ≡ true → has xs v ≡ true → p v ≡ true
all_has p [] v h m = absurd (false≢true m)
all_has p (x ∷ xs) v h m =
    let b = and_parts (p x) (list_all p xs) h in
    elim (or_cases (eqb x v) (has xs v) m) [
      | inl e ↦ subst (λ y. p y ≡ true) (eqb-true x v e) b.0
      | inr r ↦ all_has p xs v b.1 r
    ]

pub all_from : (p : ℕ → Bool) (xs : List ℕ) → ((v : ℕ) → has xs v ≡ true → p v ≡ true) → list_all p xs ≡ true
all_from p [] h = refl
all_from p (x ∷ xs) h =
    and_from (p x) (list_all p xs) (h x (or_left (eqb x x) (has xs x) (eq-eqb x x refl))) (all_from p xs (λ v m. h v (or_right (eqb x v) (has xs v) m)))

-- the test says what the words say
pub no_two_says : (f : Assignment) (group : List ℕ) → no_two f group ≡ true → NoTwo f group
no_two_says f group h = record {
  same = λ u v mu mv fu fv.
      let test : ℕ → ℕ → Bool = λ x y. eqb x y || not (f x && f y) in
      let pair : test u v ≡ true = all_has (test u) group v (all_has (λ x. list_all (test x) group) group u h mu) mv in
      elim (or_cases (eqb u v) (not (f u && f v)) pair) [
        | inl e ↦ eqb-true u v e
        | inr n ↦ absurd (false≢true (rw (fu, fv) at n))
      ];
}

pub no_two_from : (f : Assignment) (group : List ℕ) → NoTwo f group → no_two f group ≡ true
no_two_from f group h =
    all_from (λ u. list_all (λ v. eqb u v || not (f u && f v)) group) group (λ u mu.
    all_from (λ v. eqb u v || not (f u && f v)) group (λ v mv.
    tested (f u) (f v) (eqb u v) (λ fu fv. eq-eqb u v (h.same u v mu mv fu fv)))) where
      tested : (a b e : Bool) → (a ≡ true → b ≡ true → e ≡ true) → (e || not (a && b)) ≡ true
      tested false b e h = or_right e (not (false && b)) refl
      tested true false e h = or_right e (not (true && false)) refl
      tested true true e h = or_left e (not (true && true)) (h refl refl)

-- the truth of a variable's literals
pub pos_true : (f : Assignment) (v : ℕ) → lit_true f (pos_lit v) ≡ f v
unfolding pos_lit
pos_true f v = lit_true-even f (2 * v) (omega arith) ∙ ap f (omega arith)

pub neg_true : (f : Assignment) (v : ℕ) → lit_true f (neg_lit v) ≡ not (f v)
unfolding neg_lit
neg_true f v = lit_true-odd f (2 * v + 1) (omega arith) ∙ ap (λ n. not (f n)) (omega arith)

-- of two members one is false
pub one_false : (f : Assignment) (group : List ℕ) (u v : ℕ) → no_two f group ≡ true → has group u ≡ true → has group v ≡ true → u ≢ v → clause_true f (neg_lit u ∷ neg_lit v ∷ []) ≡ true
one_false f group u v h mu mv ne =
    elim (cases_Bool (f u)) [
      | inr n ↦ or_left (lit_true f (neg_lit u)) (lit_true f (neg_lit v) || false) (neg_true f u ∙ ap not n)
      | inl y ↦
          elim (cases_Bool (f v)) [
            | inr n ↦ or_right (lit_true f (neg_lit u)) (lit_true f (neg_lit v) || false) (or_left (lit_true f (neg_lit v)) false (neg_true f v ∙ ap not n))
            | inl z ↦ absurd (ne ((no_two_says f group h).same u v mu mv y z))
          ]
    ]

-- one element more has what the first ones have
pub next_all : (p : ℕ → Bool) (xs : List ℕ) (i x : ℕ) → i < length xs → x ≡ get_or xs i x → list_all p (take i xs) ≡ true → p x ≡ true → list_all p (take (i + 1) xs) ≡ true
next_all p xs i x in' is h px = list_all_more p xs i x in' ∙ and_from (list_all p (take i xs)) (p (get_or xs i x)) h (subst (λ y. p y ≡ true) is px)

-- where no member is true, or none but one, at most one is
pub none_two : (f : Assignment) (group : List ℕ) → list_all (λ v. not (f v)) group ≡ true → no_two f group ≡ true
none_two f group h = no_two_from f group (record { same = λ u v mu mv fu fv. absurd (false≢true (rw fu at (all_has (λ x. not (f x)) group u h mu))) })

pub one_two : (f : Assignment) (group : List ℕ) (one : ℕ) → list_all (is_false_or f one) group ≡ true → no_two f group ≡ true
one_two f group one h = no_two_from f group (record { same = λ u v mu mv fu fv. only u mu fu ∙ sym (only v mv fv) }) where
  only : (x : ℕ) → has group x ≡ true → f x ≡ true → x ≡ one
  only x m fx =
      elim (or_cases (eqb x one) (not (f x)) (all_has (is_false_or f one) group x h m)) [
        | inl e ↦ eqb-true x one e
        | inr n ↦ absurd (false≢true (rw fx at n))
      ]

-- a clause of two members that are true is false
pub two_false : (f : Assignment) (u v : ℕ) → f u ≡ true → f v ≡ true → clause_true f (neg_lit u ∷ neg_lit v ∷ []) ≡ false
two_false f u v fu fv = rw (neg_true f u ∙ ap not fu, neg_true f v ∙ ap not fv) refl
