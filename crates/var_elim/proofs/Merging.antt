-- Laws of the walk that puts a resolvent together.
use Rattle.std.proofs.Common.{◌≡◌, ◌≢◌, ℕ, suc, zero, ◌+◌, ◌<◌, ◌≤◌, true, false, eqb, List, [], ◌∷◌, ◌++◌, length, get_or, take, drop, ◌⊎◌, inl, inr, refl, sym, ap, ◌∙◌, subst, arith, add-one}
use Rattle.std.proofs.lemmas.Bool.{cases_eq, false≢true, or_cases, or_left, or_right, eq-eqb, eqb-true}
use Rattle.std.proofs.lemmas.List.{take_more, take_all, get_or_default}
use Rattle.std.proofs.lemmas.List.Quantifiers.{all_pairs_push}
use Rattle.std.proofs.Math.Seq.{drop-cons}
use Rattle.sat_terms.specs.Literal.{has, neg, var_of}
use Rattle.sat_terms.specs.Normal.{IsNormal}
use Rattle.sat_terms.proofs.Literals.{neg-neg, var_of-neg, same_var}
use Rattle.sat_terms.proofs.Members.{has-append_left, has-append_right, has-append_cases, has_place, has_item, same_tests}
use Rattle.normal_form.specs.Forms.{IsFormOf}
use Rattle.firm_terms.specs.Resolving.{resolvent, is_tautology}
use Rattle.firm_terms.proofs.Resolving.{any_from, resolvent_of, resolvent_left, resolvent_right, normal_apart, not_negs}
use Rattle.var_elim.specs.Merging.{AreBelow, Merging, Merged, lit_at}

-- the variables of a normal clause rise
pub var_less : (a b : ℕ) → a < b → var_of a ≢ var_of b → var_of a < var_of b
unfolding var_of
var_less a b lt ne = omega arith

rises : (c : List ℕ) (i j : ℕ) → IsNormal c → i < j → j < length c → var_of (lit_at c i) < var_of (lit_at c j)
rises c i j n lt in' = var_less (lit_at c i) (lit_at c j) (n.rising i j 0 lt in') (n.apart i j 0 lt in')

has_taken_place : (c : List ℕ) (i l : ℕ) → has (take i c) l ≡ true → (k : ℕ) × (k < i) × (k < length c) × (lit_at c k ≡ l)
has_taken_place c zero l h = absurd (false≢true h)
has_taken_place [] (suc i) l h = absurd (false≢true h)
has_taken_place (y ∷ c) (suc i) l h =
    elim (or_cases (eqb y l) (has (take i c) l) h) [
      | inl e ↦ (0, omega arith, omega arith, eqb-true y l e)
      | inr t ↦ (let r = has_taken_place c i l t in let a = r.1 in let b = r.2 in (suc r.0, omega arith, omega arith, r.3))
    ]

has_dropped_place : (c : List ℕ) (i l : ℕ) → has (drop i c) l ≡ true → (k : ℕ) × (i ≤ k) × (k < length c) × (lit_at c k ≡ l)
has_dropped_place c zero l h = let r = has_place c l 0 h in (r.0, omega arith, r.1, r.2)
has_dropped_place [] (suc i) l h = absurd (false≢true h)
has_dropped_place (y ∷ c) (suc i) l h = let r = has_dropped_place c i l h in let a = r.1 in let b = r.2 in (suc r.0, omega arith, omega arith, r.3)

parts_below : (c : List ℕ) (i j : ℕ) → IsNormal c → i ≤ j → AreBelow (take i c) (drop j c)
parts_below c i j n le = record {
  below = λ l m hl hm.
      let a = has_taken_place c i l hl in
      let b = has_dropped_place c j m hm in
      let p = a.1 in
      let q = b.1 in
      rw (← a.3, ← b.3) (rises c a.0 b.0 n (omega arith) b.2);
}

one_has : (y l : ℕ) → has (y ∷ []) l ≡ true → y ≡ l
one_has y l h = elim (or_cases (eqb y l) false h) [ inl e ↦ eqb-true y l e | inr e ↦ absurd (false≢true e) ]

one_self : (y : ℕ) → has (y ∷ []) y ≡ true
one_self y = or_left (eqb y y) false (eq-eqb y y refl)

-- a literal is below all behind its place
pub at_below : (c : List ℕ) (i : ℕ) → IsNormal c → i < length c → AreBelow (lit_at c i ∷ []) (drop (suc i) c)
at_below c i n in' = record {
  below = λ l m hl hm.
      let b = has_dropped_place c (suc i) m hm in
      let q = b.1 in
      rw (← one_has (lit_at c i) l hl, ← b.3) (rises c i b.0 n (omega arith) b.2);
}

-- and it is below all from a place on whose literal's variable is above its own
pub below_from : (c : List ℕ) (i y : ℕ) → IsNormal c → i < length c → var_of y < var_of (lit_at c i) → AreBelow (y ∷ []) (drop i c)
below_from c i y n in' lt = record {
  below = λ l m hl hm.
      let b = has_dropped_place c i m hm in
      let q = b.1 in
      let e : var_of l ≡ var_of y = ap var_of (sym (one_has y l hl)) in
      let f : var_of m ≡ var_of (lit_at c b.0) = ap var_of (sym b.3) in
      elim (cases_eq b.0 i) [
        | inl z ↦ (let g : var_of (lit_at c b.0) ≡ var_of (lit_at c i) = ap (λ (k : ℕ). var_of (lit_at c k)) z in omega (arith, e, f, g, lt))
        | inr ne ↦ (let r = rises c i b.0 n (omega arith) b.2 in omega (arith, e, f, r, lt))
      ];
}

pub below_end : (c : List ℕ) (i y : ℕ) → length c ≤ i → AreBelow (y ∷ []) (drop i c)
below_end c i y le = record { below = λ l m hl hm. (let b = has_dropped_place c i m hm in let p = b.1 in let q = b.2 in absurd (omega arith)) }

-- less of the rest
below_less : (p q t : List ℕ) (y : ℕ) → AreBelow p (y ∷ q) → AreBelow p q
below_less p q t y h = record { below = λ l m hl hm. h.below l m hl (or_right (eqb y m) (has q m) hm) }

-- one literal more was passed
below_more : (p q : List ℕ) (y : ℕ) → AreBelow p q → AreBelow (y ∷ []) q → AreBelow (p ++ y ∷ []) q
below_more p q y h k = record { below = λ l m hl hm. elim (has-append_cases p (y ∷ []) l hl) [ inl a ↦ h.below l m a hm | inr b ↦ k.below l m b hm ] }

below_first : (p q : List ℕ) (y : ℕ) → AreBelow p (y ∷ q) → (l : ℕ) → has p l ≡ true → var_of l < var_of y
below_first p q y h l hl = h.below l y hl (or_left (eqb y y) (has q y) (eq-eqb y y refl))

-- a normal clause with a literal at its end
normal_push : (c : List ℕ) (y : ℕ) → IsNormal c → ((l : ℕ) → has c l ≡ true → var_of l < var_of y) → IsNormal (c ++ y ∷ [])
unfolding var_of
normal_push c y n h = record {
  rising = all_pairs_push (λ a b. a < b) c y n.rising (λ k d lt. (let v = h (get_or c k d) (has_item c k d lt) in omega arith));
  apart = all_pairs_push (λ a b. var_of a ≢ var_of b) c y n.apart (λ k d lt e. (let v = h (get_or c k d) (has_item c k d lt) in absurd (omega (arith, v, e))));
}

-- the literals of resolvents that grow
module _ (x y : ℕ) (p r form : List ℕ) (same : (l : ℕ) → has form l ≡ has (resolvent x p r) l) where
  grown : (p' r' : List ℕ) → ((l : ℕ) → has (resolvent x p r) l ≡ true → has (resolvent x p' r') l ≡ true)
      → ((l : ℕ) → has (resolvent x p' r') l ≡ true → (has (resolvent x p r) l ≡ true) ⊎ (y ≡ l)) → has (resolvent x p' r') y ≡ true
      → (l : ℕ) → has (form ++ y ∷ []) l ≡ has (resolvent x p' r') l
  grown p' r' more less here l =
      same_tests (has (form ++ y ∷ []) l) (has (resolvent x p' r') l)
      (λ h. elim (has-append_cases form (y ∷ []) l h) [ inl a ↦ more l (sym (same l) ∙ a) | inr b ↦ subst (λ (z : ℕ). has (resolvent x p' r') z ≡ true) (one_has y l b) here ])
      (λ h. elim (less l h) [ inl a ↦ has-append_left form (y ∷ []) l (same l ∙ a) | inr e ↦ has-append_right form (y ∷ []) l (subst (λ (z : ℕ). has (y ∷ []) z ≡ true) e (one_self y)) ])

more_left : (x : ℕ) (p r : List ℕ) (y l : ℕ) → has (resolvent x p r) l ≡ true → has (resolvent x (p ++ y ∷ []) r) l ≡ true
more_left x p r y l h =
    elim (resolvent_of x p r l h) [
      | inl i ↦ resolvent_left x (p ++ y ∷ []) r l (has-append_left p (y ∷ []) l i.0) i.1
      | inr i ↦ resolvent_right x (p ++ y ∷ []) r l i.0 i.1
    ]

less_left : (x : ℕ) (p r : List ℕ) (y l : ℕ) → has (resolvent x (p ++ y ∷ []) r) l ≡ true → (has (resolvent x p r) l ≡ true) ⊎ ((y ≡ l) × (y ≢ x))
less_left x p r y l h =
    elim (resolvent_of x (p ++ y ∷ []) r l h) [
      | inl i ↦
          elim (has-append_cases p (y ∷ []) l i.0) [
            | inl a ↦ inl (resolvent_left x p r l a i.1)
            | inr b ↦ (let e = one_has y l b in inr (e, λ q. i.1 (sym e ∙ q)))
          ]
      | inr i ↦ inl (resolvent_right x p r l i.0 i.1)
    ]

more_right : (x : ℕ) (p r : List ℕ) (y l : ℕ) → has (resolvent x p r) l ≡ true → has (resolvent x p (r ++ y ∷ [])) l ≡ true
more_right x p r y l h =
    elim (resolvent_of x p r l h) [
      | inl i ↦ resolvent_left x p (r ++ y ∷ []) l i.0 i.1
      | inr i ↦ resolvent_right x p (r ++ y ∷ []) l (has-append_left r (y ∷ []) l i.0) i.1
    ]

less_right : (x : ℕ) (p r : List ℕ) (y l : ℕ) → has (resolvent x p (r ++ y ∷ [])) l ≡ true → (has (resolvent x p r) l ≡ true) ⊎ ((y ≡ l) × (y ≢ neg x))
less_right x p r y l h =
    elim (resolvent_of x p (r ++ y ∷ []) l h) [
      | inl i ↦ inl (resolvent_left x p r l i.0 i.1)
      | inr i ↦
          elim (has-append_cases r (y ∷ []) l i.0) [
            | inl a ↦ inl (resolvent_right x p r l a i.1)
            | inr b ↦ (let e = one_has y l b in inr (e, λ q. i.1 (sym e ∙ q)))
          ]
    ]

-- the steps of the walk
module _ (x : ℕ) (p q r t form : List ℕ) where
  form_below : (y : ℕ) → ((l : ℕ) → has form l ≡ has (resolvent x p r) l) → ((l : ℕ) → has p l ≡ true → var_of l < var_of y) → ((l : ℕ) → has r l ≡ true → var_of l < var_of y) → (l : ℕ) → has form l ≡ true → var_of l < var_of y
  form_below y same a b l h =
      elim (resolvent_of x p r l (sym (same l) ∙ h)) [ inl i ↦ a l i.0 | inr i ↦ b l i.0 ]

  step_left : (y : ℕ) → Merging x p (y ∷ q) r t form → AreBelow (y ∷ []) q → AreBelow (y ∷ []) t → y ≢ x → Merging x (p ++ y ∷ []) q r t (form ++ y ∷ [])
  step_left y h own far ne = record {
    same = grown x y p r form h.same (p ++ y ∷ []) r (λ l i. more_left x p r y l i)
        (λ l i. elim (less_left x p r y l i) [ inl a ↦ inl a | inr b ↦ inr b.0 ])
        (resolvent_left x (p ++ y ∷ []) r y (has-append_right p (y ∷ []) y (one_self y)) ne);
    normal = normal_push form y h.normal (form_below y h.same (below_first p q y h.first) (below_first r q y h.back));
    first = below_more p q y (below_less p q t y h.first) own;
    second = h.second;
    across = below_more p t y h.across far;
    back = below_less r q t y h.back;
  }

  step_right : (y : ℕ) → Merging x p q r (y ∷ t) form → AreBelow (y ∷ []) t → AreBelow (y ∷ []) q → y ≢ neg x → Merging x p q (r ++ y ∷ []) t (form ++ y ∷ [])
  step_right y h own far ne = record {
    same = grown x y p r form h.same p (r ++ y ∷ []) (λ l i. more_right x p r y l i)
        (λ l i. elim (less_right x p r y l i) [ inl a ↦ inl a | inr b ↦ inr b.0 ])
        (resolvent_right x p (r ++ y ∷ []) y (has-append_right r (y ∷ []) y (one_self y)) ne);
    normal = normal_push form y h.normal (form_below y h.same (below_first p t y h.across) (below_first r t y h.second));
    first = h.first;
    second = below_more r t y (below_less r t q y h.second) own;
    across = below_less p t q y h.across;
    back = below_more r q y h.back far;
  }

  step_both : (y : ℕ) → Merging x p (y ∷ q) r (y ∷ t) form → AreBelow (y ∷ []) q → AreBelow (y ∷ []) t → y ≢ x → Merging x (p ++ y ∷ []) q (r ++ y ∷ []) t (form ++ y ∷ [])
  step_both y h own own' ne = record {
    same = grown x y p r form h.same (p ++ y ∷ []) (r ++ y ∷ []) (λ l i. more_right x (p ++ y ∷ []) r y l (more_left x p r y l i))
        (λ l i. elim (less_right x (p ++ y ∷ []) r y l i) [
          | inl a ↦ elim (less_left x p r y l a) [ inl b ↦ inl b | inr b ↦ inr b.0 ]
          | inr a ↦ inr a.0
        ])
        (resolvent_left x (p ++ y ∷ []) (r ++ y ∷ []) y (has-append_right p (y ∷ []) y (one_self y)) ne);
    normal = normal_push form y h.normal (form_below y h.same (below_first p q y h.first) (below_first r q y h.back));
    first = below_more p q y (below_less p q t y h.first) own;
    second = below_more r t y (below_less r t q y h.second) own';
    across = below_more p t y (below_less p t q y h.across) own';
    back = below_more r q y (below_less r q t y h.back) own;
  }

  step_skip : (y : ℕ) → y ≡ neg x → Merging x p (x ∷ q) r (y ∷ t) form → AreBelow (x ∷ []) q → AreBelow (y ∷ []) t → Merging x (p ++ x ∷ []) q (r ++ y ∷ []) t form
  step_skip y e h own own' =
      let v : var_of y ≡ var_of x = ap var_of e ∙ var_of-neg x in
      record {
        same = λ l.
            same_tests (has form l) (has (resolvent x (p ++ x ∷ []) (r ++ y ∷ [])) l)
            (λ i. more_right x (p ++ x ∷ []) r y l (more_left x p r x l (sym (h.same l) ∙ i)))
            (λ i. h.same l ∙ elim (less_right x (p ++ x ∷ []) r y l i) [
              | inl a ↦ elim (less_left x p r x l a) [ inl b ↦ b | inr b ↦ absurd (b.1 refl) ]
              | inr a ↦ absurd (a.1 e)
            ]);
        normal = h.normal;
        first = below_more p q x (below_less p q t x h.first) own;
        second = below_more r t y (below_less r t q y h.second) own';
        across = below_more p t x (below_less p t q y h.across) (record { below = λ l m hl hm. (let u = own'.below y m (one_self y) hm in let w : var_of l ≡ var_of x = ap var_of (sym (one_has x l hl)) in omega (arith, u, w, v)) });
        back = below_more r q y (below_less r q t x h.back) (record { below = λ l m hl hm. (let u = own.below x m (one_self x) hm in let w : var_of l ≡ var_of y = ap var_of (sym (one_has y l hl)) in omega (arith, u, w, v)) });
      }

-- a literal that is next, and below what is left of the other clause, is not the one that is resolved on
not_resolved : (y x : ℕ) (q r t d : List ℕ) → d ≡ r ++ t → has d x ≡ true → AreBelow r (y ∷ q) → AreBelow (y ∷ []) t → var_of y ≢ var_of x
not_resolved y x q r t d e h back far v =
    elim (has-append_cases r t x (ap (λ (z : List ℕ). has z x) (sym e) ∙ h)) [
      | inl a ↦ (let u = below_first r q y back x a in absurd (omega (arith, u, v)))
      | inr b ↦ (let u = far.below y x (one_self y) b in absurd (omega (arith, u, v)))
    ]

cut : (c : List ℕ) (i : ℕ) → c ≡ take i c ++ drop i c
cut c zero = refl
cut [] (suc i) = refl
cut (y ∷ c) (suc i) = ap (λ (z : List ℕ). y ∷ z) (cut c i)

take_next : (c : List ℕ) (i : ℕ) → i < length c → take (suc i) c ≡ take i c ++ lit_at c i ∷ []
take_next c i in' = rw add-one at (take_more c i 0 in')

drop_next : (c : List ℕ) (i : ℕ) → i < length c → drop i c ≡ lit_at c i ∷ drop (suc i) c
drop_next c i in' = drop-cons c i 0 in'

-- the same, by places
module _ (x i j : ℕ) (c d form : List ℕ) (nc : IsNormal c) (nd : IsNormal d) (hc : has c x ≡ true) (hd : has d (neg x) ≡ true) (h : Merged x c d i j form) where
  pub merged_left : i < length c → AreBelow (lit_at c i ∷ []) (drop j d) → Merged x c d (suc i) j (form ++ lit_at c i ∷ [])
  merged_left in' far =
      let m : Merging x (take i c) (lit_at c i ∷ drop (suc i) c) (take j d) (drop j d) form = subst (λ (z : List ℕ). Merging x (take i c) z (take j d) (drop j d) form) (drop_next c i in') h in
      let ne : lit_at c i ≢ x = λ e. not_resolved (lit_at c i) (neg x) (drop (suc i) c) (take j d) (drop j d) d (cut d j) hd m.back far (ap var_of e ∙ sym (var_of-neg x)) in
      subst (λ (z : List ℕ). Merging x z (drop (suc i) c) (take j d) (drop j d) (form ++ lit_at c i ∷ [])) (sym (take_next c i in'))
      (step_left x (take i c) (drop (suc i) c) (take j d) (drop j d) form (lit_at c i) m (at_below c i nc in') far ne)

  pub merged_right : j < length d → AreBelow (lit_at d j ∷ []) (drop i c) → Merged x c d i (suc j) (form ++ lit_at d j ∷ [])
  merged_right in' far =
      let m : Merging x (take i c) (drop i c) (take j d) (lit_at d j ∷ drop (suc j) d) form = subst (λ (z : List ℕ). Merging x (take i c) (drop i c) (take j d) z form) (drop_next d j in') h in
      let ne : lit_at d j ≢ neg x = λ e. not_resolved (lit_at d j) x (drop (suc j) d) (take i c) (drop i c) c (cut c i) hc m.across far (ap var_of e ∙ var_of-neg x) in
      subst (λ (z : List ℕ). Merging x (take i c) (drop i c) z (drop (suc j) d) (form ++ lit_at d j ∷ [])) (sym (take_next d j in'))
      (step_right x (take i c) (drop i c) (take j d) (drop (suc j) d) form (lit_at d j) m (at_below d j nd in') far ne)

  module _ (in' : i < length c) (in'' : j < length d) where
    both : Merging x (take i c) (lit_at c i ∷ drop (suc i) c) (take j d) (lit_at d j ∷ drop (suc j) d) form
    both =
        subst (λ (z : List ℕ). Merging x (take i c) (lit_at c i ∷ drop (suc i) c) (take j d) z form) (drop_next d j in'')
        (subst (λ (z : List ℕ). Merging x (take i c) z (take j d) (drop j d) form) (drop_next c i in') h)

    forth : (form' : List ℕ) → Merging x (take i c ++ lit_at c i ∷ []) (drop (suc i) c) (take j d ++ lit_at d j ∷ []) (drop (suc j) d) form' → Merged x c d (suc i) (suc j) form'
    forth form' m =
        subst (λ (z : List ℕ). Merging x z (drop (suc i) c) (take (suc j) d) (drop (suc j) d) form') (sym (take_next c i in'))
        (subst (λ (z : List ℕ). Merging x (take i c ++ lit_at c i ∷ []) (drop (suc i) c) z (drop (suc j) d) form') (sym (take_next d j in'')) m)

    pub merged_both : lit_at c i ≡ lit_at d j → Merged x c d (suc i) (suc j) (form ++ lit_at c i ∷ [])
    merged_both e =
        let ne : lit_at c i ≢ x = λ q. false≢true (sym (normal_apart d nd x (subst (λ (z : ℕ). has d z ≡ true) (sym e ∙ q) (has_item d j 0 in''))) ∙ hd) in
        let m = subst (λ (z : ℕ). Merging x (take i c) (lit_at c i ∷ drop (suc i) c) (take j d) (z ∷ drop (suc j) d) form) (sym e) both in
        let own = subst (λ (z : ℕ). AreBelow (z ∷ []) (drop (suc j) d)) (sym e) (at_below d j nd in'') in
        let k = step_both x (take i c) (drop (suc i) c) (take j d) (drop (suc j) d) form (lit_at c i) m (at_below c i nc in') own ne in
        forth (form ++ lit_at c i ∷ []) (subst (λ (z : ℕ). Merging x (take i c ++ lit_at c i ∷ []) (drop (suc i) c) (take j d ++ z ∷ []) (drop (suc j) d) (form ++ lit_at c i ∷ [])) e k)

    pub merged_skip : lit_at c i ≡ x → lit_at d j ≡ neg x → Merged x c d (suc i) (suc j) form
    merged_skip e f =
        let m = subst (λ (z : ℕ). Merging x (take i c) (z ∷ drop (suc i) c) (take j d) (lit_at d j ∷ drop (suc j) d) form) e both in
        let own = subst (λ (z : ℕ). AreBelow (z ∷ []) (drop (suc i) c)) e (at_below c i nc in') in
        let k = step_skip x (take i c) (drop (suc i) c) (take j d) (drop (suc j) d) form (lit_at d j) f m own (at_below d j nd in'') in
        forth form (subst (λ (z : ℕ). Merging x (take i c ++ z ∷ []) (drop (suc i) c) (take j d ++ lit_at d j ∷ []) (drop (suc j) d) form) (sym e) k)

    pub merged_clash : lit_at c i ≢ x → lit_at d j ≡ neg (lit_at c i) → is_tautology (resolvent x c d) ≡ true
    merged_clash ne f =
        any_from _ (resolvent x c d) (lit_at c i) (resolvent_left x c d (lit_at c i) (has_item c i 0 in') ne)
        (resolvent_right x c d (neg (lit_at c i)) (subst (λ (z : ℕ). has d z ≡ true) f (has_item d j 0 in'')) (not_negs x (lit_at c i) ne))

  pub merged_end : length c ≤ i → length d ≤ j → IsFormOf form (resolvent x c d)
  merged_end le le' = record { normal = h.normal; same = λ l. h.same l ∙ ap (λ (z : List ℕ). has (resolvent x z (take j d)) l) (take_all i c le) ∙ ap (λ (z : List ℕ). has (resolvent x c z) l) (take_all j d le') }

-- before the first step
pub merged_none : (x : ℕ) (c d : List ℕ) → IsNormal c → IsNormal d → Merged x c d 0 0 []
merged_none x c d nc nd = record {
  same = λ l. refl;
  normal = record { rising = λ i j e lt in'. absurd (omega arith); apart = λ i j e lt in'. absurd (omega arith) };
  first = record { below = λ l m hl hm. absurd (false≢true hl) };
  second = record { below = λ l m hl hm. absurd (false≢true hl) };
  across = record { below = λ l m hl hm. absurd (false≢true hl) };
  back = record { below = λ l m hl hm. absurd (false≢true hl) };
}

-- which of two literals comes next
module _ (c d : List ℕ) (i j a b : ℕ) (in' : i < length c) (in'' : j < length d) (ea : a ≡ get_or c i a) (eb : b ≡ get_or d j b) where
  is_first : a ≡ lit_at c i
  is_first = ea ∙ get_or_default c i a 0 in'

  is_second : b ≡ lit_at d j
  is_second = eb ∙ get_or_default d j b 0 in''

  pub comes_first : IsNormal d → var_of a < var_of b → (i < length c) × AreBelow (lit_at c i ∷ []) (drop j d)
  comes_first nd lt = (in', below_from d j (lit_at c i) nd in'' (rw (← is_first, ← is_second) lt))

  pub come_both : a ≡ b → (i < length c) × (j < length d) × (lit_at c i ≡ lit_at d j)
  come_both e = (in', in'', sym is_first ∙ e ∙ is_second)

  are_opposite : var_of a ≡ var_of b → a ≢ b → b ≡ neg a
  are_opposite v n = elim (same_var a b v) [ inl q ↦ absurd (n q) | inr q ↦ sym (ap neg q ∙ neg-neg b) ]

  pub come_opposite : (x : ℕ) → var_of a ≡ var_of b → a ≢ b → a ≡ x → (i < length c) × (j < length d) × (lit_at c i ≡ x) × (lit_at d j ≡ neg x)
  come_opposite x v n e = (in', in'', sym is_first ∙ e, sym is_second ∙ are_opposite v n ∙ ap neg e)

  pub come_clash : (x : ℕ) → var_of a ≡ var_of b → a ≢ b → a ≢ x → (i < length c) × (j < length d) × (lit_at c i ≢ x) × (lit_at d j ≡ neg (lit_at c i))
  come_clash x v n m = (in', in'', (λ e. m (is_first ∙ e)), sym is_second ∙ are_opposite v n ∙ ap neg is_first)

-- the steps of the code
module _ (x i j : ℕ) (c d form : List ℕ) (nc : IsNormal c) (nd : IsNormal d) (hc : has c x ≡ true) (hd : has d (neg x) ≡ true) (h : (i ≤ length c) × (j ≤ length d) × Merged x c d i j form) where
  module _ (form' : List ℕ) (y : ℕ) (more : form' ≡ form ++ y ∷ []) where
    pub walk_left : y ≡ get_or c i y → (i < length c) × AreBelow (lit_at c i ∷ []) (drop j d) → (i + 1 ≤ length c) × (j ≤ length d) × Merged x c d (i + 1) j form'
    walk_left e k =
        let in' = k.0 in
        let f : form' ≡ form ++ lit_at c i ∷ [] = more ∙ ap (λ (z : ℕ). form ++ z ∷ []) (e ∙ get_or_default c i y 0 in') in
        (omega arith, h.1, rw (f, add-one) (merged_left x i j c d form nc nd hc hd h.2 in' k.1))

    pub walk_right : y ≡ get_or d j y → (j < length d) × AreBelow (lit_at d j ∷ []) (drop i c) → (i ≤ length c) × (j + 1 ≤ length d) × Merged x c d i (j + 1) form'
    walk_right e k =
        let in' = k.0 in
        let f : form' ≡ form ++ lit_at d j ∷ [] = more ∙ ap (λ (z : ℕ). form ++ z ∷ []) (e ∙ get_or_default d j y 0 in') in
        (h.0, omega arith, rw (f, add-one) (merged_right x i j c d form nc nd hc hd h.2 in' k.1))

    pub walk_both : y ≡ get_or c i y → (i < length c) × (j < length d) × (lit_at c i ≡ lit_at d j) → (i + 1 ≤ length c) × (j + 1 ≤ length d) × Merged x c d (i + 1) (j + 1) form'
    walk_both e k =
        let in' = k.0 in
        let in'' = k.1 in
        let f : form' ≡ form ++ lit_at c i ∷ [] = more ∙ ap (λ (z : ℕ). form ++ z ∷ []) (e ∙ get_or_default c i y 0 in') in
        (omega arith, omega arith, rw (f, add-one, add-one) (merged_both x i j c d form nc nd hc hd h.2 in' in'' k.2))

  pub walk_skip : (i < length c) × (j < length d) × (lit_at c i ≡ x) × (lit_at d j ≡ neg x) → (i + 1 ≤ length c) × (j + 1 ≤ length d) × Merged x c d (i + 1) (j + 1) form
  walk_skip k =
      let in' = k.0 in
      let in'' = k.1 in
      (omega arith, omega arith, rw (add-one, add-one) (merged_skip x i j c d form nc nd hc hd h.2 in' in'' k.2 k.3))

  pub walk_clash : (i < length c) × (j < length d) × (lit_at c i ≢ x) × (lit_at d j ≡ neg (lit_at c i)) → is_tautology (resolvent x c d) ≡ true
  walk_clash k = merged_clash x i j c d form nc nd hc hd h.2 k.0 k.1 k.2 k.3
