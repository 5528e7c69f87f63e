-- Laws of what unit propagation makes true.
use Rattle.std.proofs.Common.{◌≡◌, ℕ, ◌+◌, ◌≤◌, true, false, not, eqb, List, [], ◌∷◌, ◌++◌, length, Option, inl, inr, refl, sym, ap, ◌∙◌, arith}
use Rattle.std.proofs.lemmas.Bool.{false≢true, cases_Bool, cases_eq, or_cases, or_left, or_right, or_parts, eqb-true, eq-eqb}
use Rattle.std.proofs.lemmas.List.{append-nil, append_assoc, length-append}
use Rattle.sat_terms.specs.Literal.{has, neg}
use Rattle.sat_terms.specs.Truth.{Assignment, lit_true, clause_true}
use Rattle.sat_terms.proofs.Literals.{neg-neg}
use Rattle.sat_terms.proofs.Truths.{clause_true-from, clause_true-some, lit_true-neg}
use Rattle.clause_store.specs.Stored.{Stored, slot, slot_lits, FirmTrue}
use Rattle.vivify_pass.specs.Rule.{ResultIsImplied, CalmIsNotShortened}
use Rattle.firm_terms.specs.Vivifying.{Forced, Fails, negs, Stops, Vivifies, Calm}
use Rattle.firm_terms.specs.Vivifying.Forced.{start, unit}

-- a literal that is forced is true wherever the given ones and the firm clauses are
pub forced_true : (s : List (Option Stored)) (id : ℕ) (given : List ℕ) (l : ℕ) (f : Assignment) → FirmTrue s f → ((m : ℕ) → has given m ≡ true → lit_true f m ≡ true) → Forced s id given l → lit_true f l ≡ true
forced_true s id given _ f h g (start l i) = g l i
forced_true s id given _ f h g (unit l k ne firm' i others) =
    let r = clause_true-some f (slot_lits (slot s k)) (h k firm') in
    elim (cases_eq r.0 l) [
      | inl e ↦ ap (lit_true f) (sym e) ∙ r.2
      | inr n ↦
          (let t = forced_true s id given (neg r.0) f h g (others r.0 r.1 n) in
          absurd (false≢true (sym (lit_true-neg f r.0 ∙ ap not r.2) ∙ t)))
    ]

pub fails_never : (s : List (Option Stored)) (id : ℕ) (given : List ℕ) (f : Assignment) → FirmTrue s f → ((m : ℕ) → has given m ≡ true → lit_true f m ≡ true) → Fails s id given → ⊥
fails_never s id given f h g x =
    let r = clause_true-some f (slot_lits (slot s x.0)) (h x.0 x.2) in
    let t = forced_true s id given (neg r.0) f h g (x.3 r.0 r.1) in
    false≢true (sym (lit_true-neg f r.0 ∙ ap not r.2) ∙ t)

-- more may be given
pub forced_more : (s : List (Option Stored)) (id : ℕ) (xs ys : List ℕ) (l : ℕ) → ((m : ℕ) → has xs m ≡ true → has ys m ≡ true) → Forced s id xs l → Forced s id ys l
forced_more s id xs ys _ sub (start l i) = start l (sub l i)
forced_more s id xs ys _ sub (unit l k ne firm' i others) = unit l k ne firm' i (λ m a b. forced_more s id xs ys (neg m) sub (others m a b))

-- where a clause is false, its opposites are true
pub has_negs : (c : List ℕ) (l : ℕ) → has (negs c) l ≡ true → has c (neg l) ≡ true
has_negs [] l h = absurd (false≢true h)
has_negs (x ∷ c) l h =
    elim (or_cases (eqb (neg x) l) (has (negs c) l) h) [
      | inl e ↦ or_left (eqb x (neg l)) (has c (neg l)) (eq-eqb x (neg l) (sym (neg-neg x) ∙ ap neg (eqb-true (neg x) l e)))
      | inr t ↦ or_right (eqb x (neg l)) (has c (neg l)) (has_negs c l t)
    ]

negs_true : (f : Assignment) (c : List ℕ) → clause_true f c ≡ false → (m : ℕ) → has (negs c) m ≡ true → lit_true f m ≡ true
negs_true f c out m i =
    elim (cases_Bool (lit_true f m)) [
      | inl y ↦ y
      | inr n ↦ absurd (false≢true (sym out ∙ clause_true-from f c (neg m) (has_negs c m i) (lit_true-neg f m ∙ ap not n)))
    ]

true_append : (f : Assignment) (c : List ℕ) (l : ℕ) → clause_true f (c ++ l ∷ []) ≡ false → (clause_true f c ≡ false) × (lit_true f l ≡ false)
true_append f [] l h = (refl, (or_parts (lit_true f l) false h).0)
true_append f (x ∷ c) l h =
    let p = or_parts (lit_true f x) (clause_true f (c ++ l ∷ [])) h in
    let r = true_append f c l p.1 in
    (rw (p.0, r.0) refl, r.1)

-- what the rule makes is implied: where what is assumed is false, a literal of the rest is true
stops_implied : (s : List (Option Stored)) (id : ℕ) (c assumed new : List ℕ) (f : Assignment) → FirmTrue s f → Stops s id c assumed new → clause_true f new ≡ true
stops_implied s id c assumed new f h x =
    elim (cases_Bool (clause_true f new)) [
      | inl y ↦ y
      | inr out ↦
          elim x.1 [
            | inl a ↦ (let e = a.1 in absurd (fails_never s id (negs assumed) f h (negs_true f assumed (rw e at out)) a.0))
            | inr b ↦
                (let e = b.1.3 in
                let o = true_append f assumed b.1.0 (rw e at out) in
                absurd (false≢true (sym o.1 ∙ forced_true s id (negs assumed) b.1.0 f h (negs_true f assumed o.0) b.1.2)))
          ]
    ]

implied_from : (s : List (Option Stored)) (id : ℕ) (c assumed rest new : List ℕ) (f : Assignment) → FirmTrue s f → (clause_true f assumed ≡ false → clause_true f rest ≡ true) → Vivifies s id c assumed rest new → clause_true f new ≡ true
implied_from s id c assumed [] new f h left x =
    elim x [
      | inl a ↦ stops_implied s id c assumed new f h a
      | inr b ↦
          (let e = b.1 in
          elim (cases_Bool (clause_true f assumed)) [ inl y ↦ rw e y | inr n ↦ absurd (false≢true (left n)) ])
    ]
implied_from s id c assumed (l ∷ rest) new f h left x =
    elim x [
      | inl a ↦ stops_implied s id c assumed new f h a
      | inr b ↦
          elim b.1 [
            | inl skip ↦
                implied_from s id c assumed rest new f h
                (λ n. elim (or_cases (lit_true f l) (clause_true f rest) (left n)) [
                  | inl t ↦ absurd (false≢true (sym (lit_true-neg f l ∙ ap not t) ∙ forced_true s id (negs assumed) (neg l) f h (negs_true f assumed n) skip.1))
                  | inr t ↦ t
                ])
                skip.2
            | inr take' ↦
                implied_from s id c (assumed ++ l ∷ []) rest new f h
                (λ n. let o = true_append f assumed l n in
                elim (or_cases (lit_true f l) (clause_true f rest) (left o.0)) [
                  | inl t ↦ absurd (false≢true (sym o.1 ∙ t))
                  | inr t ↦ t
                ])
                take'.1
          ]
    ]

pub result_implied : ResultIsImplied
result_implied s id new firm' x f h = implied_from s id (slot_lits (slot s id)) [] (slot_lits (slot s id)) new f h (λ _. h id firm') x

-- a calm clause is assumed whole
calm_from : (s : List (Option Stored)) (id : ℕ) (c assumed rest new : List ℕ) → c ≡ assumed ++ rest → Calm s id c → Vivifies s id c assumed rest new → length c ≤ length new
calm_from s id c assumed [] new e calm x =
    let whole : c ≡ assumed = e ∙ append-nil assumed in
    let lc : length c ≡ length assumed = ap length whole in
    elim x [
      | inl a ↦
          elim a.1 [
            | inl y ↦ (let n = y.1 in rw n (omega arith))
            | inr y ↦ (let n = y.1.3 in let la = length-append assumed (y.1.0 ∷ []) in rw n (omega arith))
          ]
      | inr b ↦ (let n = b.1 in rw n (omega arith))
    ]
calm_from s id c assumed (l ∷ rest) new e calm x =
    let le : length c ≡ length assumed + length (l ∷ rest) = ap length e ∙ length-append assumed (l ∷ rest) in
    elim x [
      | inl a ↦
          (let k = calm assumed rest l e a.0 in
          elim a.1 [
            | inl y ↦ absurd (k.stands y.0)
            | inr y ↦
                elim (cases_eq (length rest) 0) [
                  | inl z ↦ (let n = y.1.3 in let la = length-append assumed (y.1.0 ∷ []) in rw n (omega arith))
                  | inr nz ↦ absurd (k.open_yet (omega arith) y.1.0 y.1.1 y.1.2)
                ]
          ])
      | inr b ↦
          elim b.1 [
            | inl skip ↦ absurd ((calm assumed rest l e skip.0).free skip.1)
            | inr take' ↦ calm_from s id c (assumed ++ l ∷ []) rest new (e ∙ sym (append_assoc assumed (l ∷ []) rest)) calm take'.1
          ]
    ]

pub calm_whole : CalmIsNotShortened
calm_whole s id c new calm x = calm_from s id c [] c new refl calm x
