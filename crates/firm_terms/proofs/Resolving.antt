-- Laws of resolvents and tautologies, and of the witnesses that they give.
use Rattle.std.proofs.Common.{◌≡◌, ◌≢◌, ℕ, Bool, true, false, not, eqb, ◌&&◌, List, [], ◌∷◌, get_or, Option, ◌⊎◌, inl, inr, refl, sym, ap, ◌∙◌, subst, arith}
use Rattle.std.proofs.lemmas.Bool.{cases_Bool, cases_eq, cases_lt, false≢true, or_cases, or_left, or_right, and_parts, and_from, eqb-true, eq-eqb, ne_eqb, not-true, not_from_false, false_from_ne_true}
use Rattle.std.specs.List.{list_any}
use Rattle.sat_terms.specs.Literal.{has, neg, var_of}
use Rattle.sat_terms.specs.Normal.{IsNormal}
use Rattle.sat_terms.specs.Truth.{Assignment, lit_true, clause_true, Implies}
use Rattle.sat_terms.proofs.Literals.{neg-neg, neg-other, var_of-neg}
use Rattle.sat_terms.proofs.Members.{has-append_left, has-append_right, has-append_cases, has_place, has_without, same_tests}
use Rattle.sat_terms.proofs.Truths.{lit_true-neg, clause_true-from, clause_true-some}
use Rattle.redundancy.specs.Setting.{IsApart, set_true}
use Rattle.redundancy.specs.Redundancy.{Witnesses}
use Rattle.redundancy.proofs.Setting.{set_true-kept, clause_true-kept}
use Rattle.clause_store.specs.Stored.{Stored, slot, slot_lits, is_firm, OthersTrue}
use Rattle.firm_terms.specs.Firm.{Holds}
use Rattle.firm_terms.specs.Resolving.{without, resolvent, is_tautology, IsBlocked}

-- a test that a literal of a clause passes
pub any_some : (p : ℕ → Bool) (c : List ℕ) → list_any p c ≡ true → (l : ℕ) × (has c l ≡ true) × (p l ≡ true)
any_some p [] h = absurd (false≢true h)
any_some p (y ∷ c) h =
    elim (or_cases (p y) (list_any p c) h) [
      | inl a ↦ (y, or_left (eqb y y) (has c y) (eq-eqb y y refl), a)
      | inr b ↦ (let r = any_some p c b in (r.0, or_right (eqb y r.0) (has c r.0) r.1, r.2))
    ]

pub any_from : (p : ℕ → Bool) (c : List ℕ) (l : ℕ) → has c l ≡ true → p l ≡ true → list_any p c ≡ true
any_from p [] l h t = absurd (false≢true h)
any_from p (y ∷ c) l h t =
    elim (or_cases (eqb y l) (has c l) h) [
      | inl a ↦ or_left (p y) (list_any p c) (rw (eqb-true y l a) t)
      | inr b ↦ or_right (p y) (list_any p c) (any_from p c l b t)
    ]

-- the literals of a resolvent
without_in : (x : ℕ) (c : List ℕ) (l : ℕ) → has c l ≡ true → l ≢ x → has (without x c) l ≡ true
without_in x c l h n = has_without c x l ∙ and_from (has c l) (not (eqb l x)) h (not_from_false (eqb l x) (ne_eqb l x n))

without_of : (x : ℕ) (c : List ℕ) (l : ℕ) → has (without x c) l ≡ true → (has c l ≡ true) × (l ≢ x)
without_of x c l h =
    let p = and_parts (has c l) (not (eqb l x)) (sym (has_without c x l) ∙ h) in
    (p.0, λ e. false≢true (sym (not-true (eqb l x) p.1) ∙ eq-eqb l x e))

pub resolvent_of : (x : ℕ) (c d : List ℕ) (l : ℕ) → has (resolvent x c d) l ≡ true → ((has c l ≡ true) × (l ≢ x)) ⊎ ((has d l ≡ true) × (l ≢ neg x))
resolvent_of x c d l h =
    elim (has-append_cases (without x c) (without (neg x) d) l h) [ inl i ↦ inl (without_of x c l i) | inr i ↦ inr (without_of (neg x) d l i) ]

pub resolvent_left : (x : ℕ) (c d : List ℕ) (l : ℕ) → has c l ≡ true → l ≢ x → has (resolvent x c d) l ≡ true
resolvent_left x c d l h n = has-append_left (without x c) (without (neg x) d) l (without_in x c l h n)

pub resolvent_right : (x : ℕ) (c d : List ℕ) (l : ℕ) → has d l ≡ true → l ≢ neg x → has (resolvent x c d) l ≡ true
resolvent_right x c d l h n = has-append_right (without x c) (without (neg x) d) l (without_in (neg x) d l h n)

pub not_negs : (x l : ℕ) → l ≢ x → neg l ≢ neg x
not_negs x l n e = n (sym (neg-neg l) ∙ ap neg e ∙ neg-neg x)

-- a normal clause holds no literal beside its negation
pub normal_apart : (c : List ℕ) → IsNormal c → IsApart c
normal_apart c n l a =
    false_from_ne_true (has c (neg l)) (λ b.
    let i = has_place c l 0 a in
    let j = has_place c (neg l) 0 b in
    let e : var_of (get_or c i.0 0) ≡ var_of (get_or c j.0 0) = ap var_of i.2 ∙ sym (var_of-neg l) ∙ ap var_of (sym j.2) in
    elim (cases_eq i.0 j.0) [
      | inl s ↦ neg-other l (sym j.2 ∙ ap (λ (z : ℕ). get_or c z 0) (sym s) ∙ i.2)
      | inr ne ↦
          elim (cases_lt i.0 j.0) [
            | inl lt ↦ n.apart i.0 j.0 0 lt j.1 e
            | inr ge ↦ n.apart j.0 i.0 0 (omega arith) i.1 (sym e)
          ]
    ])

-- Two clauses clash beside x: the first has another literal than x whose negation the second has. Of clauses with no opposite literals,
-- these are the ones whose resolvent is a tautology.
abbrev pub clashes : ℕ → List ℕ → List ℕ → Bool
clashes x c d = list_any (λ l. not (eqb l x) && has d (neg l)) c

pub clash_of : (x : ℕ) (c d : List ℕ) → clashes x c d ≡ true → (l : ℕ) × (has c l ≡ true) × (l ≢ x) × (has d (neg l) ≡ true)
clash_of x c d h =
    let r = any_some _ c h in
    let p = and_parts (not (eqb r.0 x)) (has d (neg r.0)) r.2 in
    (r.0, r.1, (λ e. false≢true (sym (not-true (eqb r.0 x) p.0) ∙ eq-eqb r.0 x e)), p.1)

pub clash_from : (x : ℕ) (c d : List ℕ) (l : ℕ) → has c l ≡ true → l ≢ x → has d (neg l) ≡ true → clashes x c d ≡ true
clash_from x c d l h n i = any_from _ c l h (and_from (not (eqb l x)) (has d (neg l)) (not_from_false (eqb l x) (ne_eqb l x n)) i)

pub clash_tautology : (x : ℕ) (c d : List ℕ) → clashes x c d ≡ true → is_tautology (resolvent x c d) ≡ true
clash_tautology x c d h =
    let r = clash_of x c d h in
    any_from _ (resolvent x c d) r.0 (resolvent_left x c d r.0 r.1 r.2) (resolvent_right x c d (neg r.0) r.3 (not_negs x r.0 r.2))

pub tautology_clash : (x : ℕ) (c d : List ℕ) → IsApart c → IsApart d → is_tautology (resolvent x c d) ≡ true → clashes x c d ≡ true
tautology_clash x c d ac ad h =
    let r = any_some _ (resolvent x c d) h in
    elim (resolvent_of x c d r.0 r.1) [
      | inl i ↦
          elim (resolvent_of x c d (neg r.0) r.2) [
            | inl j ↦ absurd (false≢true (sym (ac r.0 i.0) ∙ j.0))
            | inr j ↦ clash_from x c d r.0 i.0 i.1 j.0
          ]
      | inr i ↦
          elim (resolvent_of x c d (neg r.0) r.2) [
            | inl j ↦ clash_from x c d (neg r.0) j.0 j.1 (rw (neg-neg r.0) i.0)
            | inr j ↦ absurd (false≢true (sym (ad r.0 i.0) ∙ j.0))
          ]
    ]

pub clash_is : (x : ℕ) (c d : List ℕ) → IsNormal c → IsNormal d → clashes x c d ≡ is_tautology (resolvent x c d)
clash_is x c d nc nd =
    same_tests (clashes x c d) (is_tautology (resolvent x c d)) (clash_tautology x c d) (tautology_clash x c d (normal_apart c nc) (normal_apart d nd))

-- a resolvent that is no tautology holds no opposite literals
pub resolvent_apart : (x : ℕ) (c d : List ℕ) → is_tautology (resolvent x c d) ≡ false → IsApart (resolvent x c d)
resolvent_apart x c d n l h =
    false_from_ne_true (has (resolvent x c d) (neg l)) (λ i. false≢true (sym n ∙ any_from _ (resolvent x c d) l h i))

-- a tautology is true
pub tautology_true : (f : Assignment) (c : List ℕ) → is_tautology c ≡ true → clause_true f c ≡ true
tautology_true f c h =
    let r = any_some _ c h in
    elim (cases_Bool (lit_true f r.0)) [
      | inl t ↦ clause_true-from f c r.0 r.1 t
      | inr n ↦ clause_true-from f c (neg r.0) r.2 (lit_true-neg f r.0 ∙ ap not n)
    ]

lit_false : (f : Assignment) (c : List ℕ) (l : ℕ) → clause_true f c ≡ false → has c l ≡ true → lit_true f l ≡ false
lit_false f c l n h = false_from_ne_true (lit_true f l) (λ t. false≢true (sym n ∙ clause_true-from f c l h t))

-- Setting x true spares d where c is false: d is true there by another literal than the negation of x.
abbrev pub Spares : (Assignment → Type 0) → ℕ → List ℕ → List ℕ → Type 0
Spares F x c d = (f : Assignment) → F f → clause_true f c ≡ false → (l : ℕ) × (has d l ≡ true) × (l ≢ neg x) × (lit_true f l ≡ true)

-- it does where the resolvent is implied, and where it is a tautology
pub spares_implied : (F : Assignment → Type 0) (x : ℕ) (c d : List ℕ) → Implies F (resolvent x c d) → Spares F x c d
spares_implied F x c d h f y n =
    let r = clause_true-some f (resolvent x c d) (h f y) in
    elim (resolvent_of x c d r.0 r.1) [
      | inl i ↦ absurd (false≢true (sym (lit_false f c r.0 n i.0) ∙ r.2))
      | inr i ↦ (r.0, i.0, i.1, r.2)
    ]

pub spares_tautology : (F : Assignment → Type 0) (x : ℕ) (c d : List ℕ) → is_tautology (resolvent x c d) ≡ true → Spares F x c d
spares_tautology F x c d h = spares_implied F x c d (λ f y. tautology_true f (resolvent x c d) h)

-- where fewer assignments are asked
pub spares_fewer : (F G : Assignment → Type 0) (x : ℕ) (c d : List ℕ) → ((f : Assignment) → G f → F f) → Spares F x c d → Spares G x c d
spares_fewer F G x c d h r f y n = r f (h f y) n

-- the literals of a list of one
one_has : (x l : ℕ) → has (x ∷ []) l ≡ true → x ≡ l
one_has x l h = elim (or_cases (eqb x l) false h) [ inl e ↦ eqb-true x l e | inr e ↦ absurd (false≢true e) ]

one_self : (x : ℕ) → has (x ∷ []) x ≡ true
one_self x = or_left (eqb x x) false (eq-eqb x x refl)

one_other : (x l : ℕ) → x ≢ l → has (x ∷ []) l ≡ false
one_other x l n = false_from_ne_true (has (x ∷ []) l) (λ h. n (one_has x l h))

one_apart : (x : ℕ) → IsApart (x ∷ [])
one_apart x l h = one_other x (neg l) (λ e. neg-other l (sym e ∙ one_has x l h))

-- A clause that holds x is witnessed by x for the other firm clauses, where setting x true spares each of them that holds the negation.
pub witnessed : (s : List (Option Stored)) (id x : ℕ) (c : List ℕ) → has c x ≡ true
    → ((k : ℕ) → k ≢ id → Holds s k (neg x) → Spares (OthersTrue s id) x c (slot_lits (slot s k)))
    → Witnesses (OthersTrue s id) (x ∷ []) c
witnessed s id x c h spares = record {
  apart = one_apart x;
  shared = (x, one_self x, h);
  moves = λ f y n k ne i. moved f y n k ne i (cases_Bool (has (slot_lits (slot s k)) (neg x)));
} where
  kept : (l : ℕ) → l ≢ neg x → has (x ∷ []) (neg l) ≡ false
  kept l o = one_other x (neg l) (λ e. o (sym (neg-neg l) ∙ sym (ap neg e)))

  moved : (f : Assignment) → OthersTrue s id f → clause_true f c ≡ false → (k : ℕ) → k ≢ id → is_firm (slot s k) ≡ true
      → (has (slot_lits (slot s k)) (neg x) ≡ true) ⊎ (has (slot_lits (slot s k)) (neg x) ≡ false) → clause_true (set_true f (x ∷ [])) (slot_lits (slot s k)) ≡ true
  moved f y n k ne i (inl j) =
      let r = spares k ne (record { firm = i; has = j }) f y n in
      clause_true-from (set_true f (x ∷ [])) (slot_lits (slot s k)) r.0 r.1 (set_true-kept f (x ∷ []) r.0 (kept r.0 r.2) r.3)
  moved f y n k ne i (inr j) =
      clause_true-kept f (x ∷ []) (slot_lits (slot s k)) (λ l a. kept l (λ e. false≢true (sym j ∙ subst (λ (z : ℕ). has (slot_lits (slot s k)) z ≡ true) e a))) (y k ne i)

-- a blocked clause is witnessed by the literal on which it is blocked
pub blocked_witness : (s : List (Option Stored)) (id x : ℕ) → IsBlocked s id x → Witnesses (OthersTrue s id) (x ∷ []) (slot_lits (slot s id))
blocked_witness s id x h =
    witnessed s id x (slot_lits (slot s id)) h.holds.has
    (λ k ne i. spares_tautology (OthersTrue s id) x (slot_lits (slot s id)) (slot_lits (slot s k)) (h.tautologies k i))

-- the resolvent of two clauses is implied by them
pub resolvent_implied : (F : Assignment → Type 0) (x : ℕ) (c d : List ℕ) → Implies F c → Implies F d → Implies F (resolvent x c d)
resolvent_implied F x c d hc hd f y =
    elim (cases_Bool (lit_true f x)) [
      | inl t ↦
          let r = clause_true-some f d (hd f y) in
          clause_true-from f (resolvent x c d) r.0
          (resolvent_right x c d r.0 r.1 (λ e. false≢true (sym (ap not t) ∙ sym (lit_true-neg f x) ∙ sym (ap (lit_true f) e) ∙ r.2))) r.2
      | inr t ↦
          let r = clause_true-some f c (hc f y) in
          clause_true-from f (resolvent x c d) r.0
          (resolvent_left x c d r.0 r.1 (λ e. false≢true (sym t ∙ sym (ap (lit_true f) e) ∙ r.2))) r.2
    ]
