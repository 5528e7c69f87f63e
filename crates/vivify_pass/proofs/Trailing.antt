-- The trail and what unit propagation makes true are the same.
use Rattle.std.proofs.Common.{◌≡◌, ◌≢◌, ℕ, suc, zero, ◌<◌, ◌≤◌, Bool, true, false, eqb, List, [], ◌∷◌, ◌++◌, length, get_or, cond, take, Option, Some, None, inl, inr, refl, sym, ap, ◌∙◌, subst, arith}
use Rattle.std.proofs.lemmas.Bool.{false≢true, cases_Bool, cases_eq, cases_lt, or_cases, or_left, eqb-true, eq-eqb}
use Rattle.std.proofs.lemmas.List.{get_or_append_left, get_or-take, length-take-le, length-append, length_push, append_assoc}
use Rattle.sat_terms.proofs.Members.{has-append_left, has-append_right, has-append_cases}
use Rattle.sat_terms.specs.Literal.{has, neg, var_of}
use Rattle.sat_terms.proofs.Literals.{neg-neg, neg-other, var_of-neg}
use Rattle.clause_store.specs.Stored.{Stored, slot, slot_lits, is_firm}
use Rattle.trail_state.specs.declared.trail.Step.{Step}
use Rattle.trail_state.specs.Trail.{Trace, step, no_step, true_on, value_on, IsTrail}
use Rattle.trail_state.specs.Clauses.{FalseOn}
use Rattle.trail_state.proofs.Places.{place_of_true, true_at_place}
use Rattle.trail_state.proofs.Changes.{step_old, step_new, old_or_new}
use Rattle.watch_lists.specs.Propagation.{Watching, Follows, Grown, AllQuiet}
use Rattle.firm_terms.specs.Vivifying.{Forced, Fails, negs}
use Rattle.firm_terms.specs.Vivifying.Forced.{start, unit}
use Rattle.vivify_pass.specs.Trailing.{AreOthers, AreForced, AreTrue, Probes, IsOver}
use Rattle.vivify_pass.proofs.Forcing.{forced_more}

-- what is true on the trail is forced
pub forced_on : (s : List (Option Stored)) (id : ℕ) (given : List ℕ) (t : List Step) (l : ℕ) → AreForced s id given t → true_on t l ≡ true → Forced s id given l
forced_on s id given t l h on = let p = place_of_true t l on in subst (λ (z : ℕ). Forced s id given z) p.2 (h p.0 p.1)

-- propagation adds forced literals
pub grown_forced : (s : List (Option Stored)) (id : ℕ) (given ids : List ℕ) (old new : Trace) → AreOthers s id ids → Grown ids s old new → AreForced s id given old.steps → AreForced s id given new.steps
grown_forced s id given ids old new others g h i lt = below (suc i) i (omega arith) lt where
  below : (n i : ℕ) → i < n → i < length new.steps → Forced s id given (step new.steps i).lit
  below zero i a b = absurd (omega arith)
  below (suc n) i a b =
      elim (cases_lt i (length old.steps)) [
        | inl less ↦
            (let e : step new.steps i ≡ step old.steps i = ap (λ (z : List Step). step z i) g.steps ∙ get_or_append_left old.steps g.tail no_step i less in
            subst (λ (z : Step). Forced s id given z.lit) (sym e) (h i less))
        | inr ge ↦
            (let r = g.implied i ge b in
            let at = others.sound r.by r.attached in
            unit (step new.steps i).lit r.by at.0 at.1 r.implied.holds
            (λ m c ne.
            let p = place_of_true (take i new.steps) (neg m) (r.implied.others m c ne) in
            let lt : p.0 < i = (let q = p.1 in let l = length-take-le i new.steps (omega arith) in omega arith) in
            let e : (step new.steps p.0).lit ≡ neg m = ap (λ (z : Step). z.lit) (sym (get_or-take i new.steps p.0 no_step lt)) ∙ p.2 in
            subst (λ (z : ℕ). Forced s id given z) e (below n p.0 (omega arith) (omega arith))))
      ]

-- an assumed literal is given
pub decided_forced : (s : List (Option Stored)) (id : ℕ) (given : List ℕ) (t : List Step) (x : Step) → AreForced s id given t → AreForced s id (given ++ x.lit ∷ []) (t ++ x ∷ [])
decided_forced s id given t x h i lt =
    elim (old_or_new t x i lt) [
      | inl less ↦ (let e = step_old t x i less in
          subst (λ (z : Step). Forced s id (given ++ x.lit ∷ []) z.lit) (sym e) (forced_more s id given (given ++ x.lit ∷ []) (step t i).lit (λ m a. has-append_left given (x.lit ∷ []) m a) (h i less)))
      | inr e ↦ (let there : step (t ++ x ∷ []) i ≡ x = ap (step (t ++ x ∷ [])) e ∙ step_new t x in
          subst (λ (z : Step). Forced s id (given ++ x.lit ∷ []) z.lit) (sym there) (start x.lit (has-append_right given (x.lit ∷ []) x.lit (or_left (eqb x.lit x.lit) false (eq-eqb x.lit x.lit refl)))))
    ]

pub decided_true : (given : List ℕ) (t : List Step) (x : Step) → AreTrue given t → AreTrue (given ++ x.lit ∷ []) (t ++ x ∷ [])
decided_true given t x h l i =
    elim (has-append_cases given (x.lit ∷ []) l i) [
      | inl a ↦
          (let p = place_of_true t l (h l a) in
          true_at_place (t ++ x ∷ []) p.0 l (let q = p.1 in let n = length_push t x in omega arith) (ap (λ (z : Step). z.lit) (step_old t x p.0 p.1) ∙ p.2))
      | inr b ↦
          elim (or_cases (eqb x.lit l) false b) [
            | inl e ↦ true_at_place (t ++ x ∷ []) (length t) l (let n = length_push t x in omega arith) (ap (λ (z : Step). z.lit) (step_new t x) ∙ eqb-true x.lit l e)
            | inr f ↦ absurd (false≢true f)
          ]
    ]

pub grown_true : (s : List (Option Stored)) (given ids : List ℕ) (old new : Trace) → Grown ids s old new → AreTrue given old.steps → AreTrue given new.steps
grown_true s given ids old new g h l i =
    let p = place_of_true old.steps l (h l i) in
    let e : step new.steps p.0 ≡ step old.steps p.0 = ap (λ (z : List Step). step z p.0) g.steps ∙ get_or_append_left old.steps g.tail no_step p.0 p.1 in
    true_at_place new.steps p.0 l (longer p.0 p.1) (ap (λ (z : Step). z.lit) e ∙ p.2) where
      longer : (k : ℕ) → k < length old.steps → k < length new.steps
      longer k lt = let n = ap length g.steps in let m = length-append old.steps g.tail in omega arith

-- the ids have the firm clauses but one
abbrev pub HasOthers : List (Option Stored) → ℕ → List ℕ → Type 0
HasOthers s id ids = (k : ℕ) → k ≢ id → is_firm (slot s k) ≡ true → has ids k ≡ true

-- where propagation is done, each forced literal is true on the trail
pub closed : (s : List (Option Stored)) (id : ℕ) (given ids : List ℕ) (t : List Step) (l : ℕ) → HasOthers s id ids → AllQuiet ids s t → AreTrue given t → Forced s id given l → true_on t l ≡ true
closed s id given ids t _ whole quiet g (start l i) = g l i
closed s id given ids t _ whole quiet g (unit l k ne firm' i rest) =
    let q = quiet k (whole k ne firm') in
    let side : (m : ℕ) → has (slot_lits (slot s k)) m ≡ true → m ≢ l → true_on t (neg m) ≡ true = λ m a n. closed s id given ids t (neg m) whole quiet g (rest m a n) in
    elim (cases_Bool (true_on t l)) [
      | inl y ↦ y
      | inr n ↦
          elim (cases_Bool (true_on t (neg l))) [
            | inl y ↦ absurd (q.not_false (λ m a. elim (cases_eq m l) [ inl e ↦ ap (λ (z : ℕ). true_on t (neg z)) e ∙ y | inr d ↦ side m a d ]))
            | inr n' ↦ absurd (q.not_unit l (record { holds = i; free = rw (n, n') refl; others = side }))
          ]
    ]

pub never_fails : (s : List (Option Stored)) (id : ℕ) (given ids : List ℕ) (t : List Step) → HasOthers s id ids → AllQuiet ids s t → AreTrue given t → Fails s id given → ⊥
never_fails s id given ids t whole quiet g x =
    (quiet x.0 (whole x.0 x.1 x.2)).not_false (λ m a. closed s id given ids t (neg m) whole quiet g (x.3 m a))

-- a false clause
pub conflict_fails : (s : List (Option Stored)) (id : ℕ) (given ids : List ℕ) (t : List Step) (k : ℕ) → AreOthers s id ids → AreForced s id given t → has ids k ≡ true → FalseOn t (slot_lits (slot s k)) → Fails s id given
conflict_fails s id given ids t k others h in' out =
    let at = others.sound k in' in
    (k, at.0, at.1, λ m a. forced_on s id given t (neg m) h (out m a))

-- the opposites of one literal more
pub negs_more : (c : List ℕ) (l : ℕ) → negs (c ++ l ∷ []) ≡ negs c ++ neg l ∷ []
negs_more [] l = refl
negs_more (x ∷ c) l = ap (λ (z : List ℕ). neg x ∷ z) (negs_more c l)

-- what is known after a literal was assumed and propagated
pub probes_more : (s : List (Option Stored)) (id : ℕ) (kept : List ℕ) (lit n : ℕ) (w w' : Watching) (t u v : Trace) (x : Step) → Probes s id (negs kept) w t → n ≡ neg lit → x.lit ≡ n → u.steps ≡ t.steps ++ x ∷ [] → u.declared ≡ t.declared
    → w'.attached ≡ w.attached → Follows w' s v → Grown w.attached s u v → Probes s id (negs (kept ++ lit ∷ [])) w' v
probes_more s id kept lit n w w' t u v x h en ex eu du ew follows g =
    let given : negs (kept ++ lit ∷ []) ≡ negs kept ++ x.lit ∷ [] = negs_more kept lit ∙ ap (λ (z : ℕ). negs kept ++ z ∷ []) (sym en ∙ sym ex) in
    let f1 : AreForced s id (negs kept ++ x.lit ∷ []) u.steps = rw eu (decided_forced s id (negs kept) t.steps x h.forced) in
    let t1 : AreTrue (negs kept ++ x.lit ∷ []) u.steps = rw eu (decided_true (negs kept) t.steps x h.given_true) in
    rw given (record {
      others = rw ew h.others;
      ready = rw (ew, g.declared, du) h.ready;
      follows = follows;
      forced = grown_forced s id (negs kept ++ x.lit ∷ []) w.attached u v h.others g f1;
      given_true = grown_true s (negs kept ++ x.lit ∷ []) w.attached u v g t1;
    })

pub longer_true : (s : List (Option Stored)) (ids : List ℕ) (t u v : Trace) (x : Step) (l : ℕ) → u.steps ≡ t.steps ++ x ∷ [] → Grown ids s u v → true_on t.steps l ≡ true → true_on v.steps l ≡ true
longer_true s ids t u v x l eu g h =
    let p = place_of_true t.steps l h in
    let on : true_on u.steps l ≡ true = rw eu (true_at_place (t.steps ++ x ∷ []) p.0 l (let q = p.1 in let n = length_push t.steps x in omega arith) (ap (λ (z : Step). z.lit) (step_old t.steps x p.0 p.1) ∙ p.2)) in
    grown_true s (l ∷ []) ids u v g (λ m i. elim (or_cases (eqb l m) false i) [ inl e ↦ subst (λ (z : ℕ). true_on u.steps z ≡ true) (eqb-true l m e) on | inr f ↦ absurd (false≢true f) ]) l (or_left (eqb l l) false (eq-eqb l l refl))

pub looked_true : (s : List (Option Stored)) (id : ℕ) (given ids c : List ℕ) (t : List Step) (l : ℕ) → AreOthers s id ids → AllQuiet ids s t → AreTrue given t → has c l ≡ true → true_on t l ≡ true
    → (Fails s id given → ⊥) × (has c l ≡ true) × (true_on t l ≡ true) × ((m : ℕ) → Forced s id given m → true_on t m ≡ true)
looked_true s id given ids c t l others quiet g i on = (never_fails s id given ids t others.whole quiet g, i, on, λ m x. closed s id given ids t m others.whole quiet g x)

pub looked_open : (s : List (Option Stored)) (id : ℕ) (given ids c : List ℕ) (t : List Step) → AreOthers s id ids → AllQuiet ids s t → AreTrue given t → ((l : ℕ) → has c l ≡ true → true_on t l ≡ true → ⊥)
    → (Fails s id given → ⊥) × ((l : ℕ) → has c l ≡ true → Forced s id given l → ⊥) × ((l : ℕ) → Forced s id given l → true_on t l ≡ true)
looked_open s id given ids c t others quiet g off =
    (never_fails s id given ids t others.whole quiet g, (λ l i x. off l i (closed s id given ids t l others.whole quiet g x)), λ l x. closed s id given ids t l others.whole quiet g x)

-- reading the trail
pub true_value : (t : List Step) (l : ℕ) → value_on t l ≡ Some true → true_on t l ≡ true
true_value t l e = go (true_on t l) (true_on t (neg l)) e where
  go : (a b : Bool) → cond a (Some true) (cond b (Some false) None) ≡ Some true → a ≡ true
  go true b e = refl
  go false true e = absurd (let f : Some false ≡ Some true = e in cc)
  go false false e = absurd (let f : None ≡ Some true = e in cc)

pub not_true_value : (t : List Step) (l : ℕ) → (value_on t l ≡ Some true → ⊥) → true_on t l ≡ true → ⊥
not_true_value t l n h = n (rw h refl)

pub none_true : (t : List Step) (c : List ℕ) (i : ℕ) → length c ≤ i → ((k : ℕ) → k < i → true_on t (get_or c k 0) ≡ true → ⊥) → (l : ℕ) → has c l ≡ true → true_on t l ≡ true → ⊥
none_true t c i past h l in' on = go c i past h l in' on where
  go : (c : List ℕ) (i : ℕ) → length c ≤ i → ((k : ℕ) → k < i → true_on t (get_or c k 0) ≡ true → ⊥) → (l : ℕ) → has c l ≡ true → true_on t l ≡ true → ⊥
  go [] i past h l in' on = absurd (false≢true in')
  go (x ∷ c) zero past h l in' on = absurd (omega arith)
  go (x ∷ c) (suc i) past h l in' on =
      elim (or_cases (eqb x l) (has c l) in') [
        | inl e ↦ h 0 (omega arith) (subst (λ (z : ℕ). true_on t z ≡ true) (sym (eqb-true x l e)) on)
        | inr r ↦ go c i (omega arith) (λ k lt. h (suc k) (omega arith)) l r on
      ]

-- no literal and its negation are true
pub not_both : (t : List Step) (top l : ℕ) → IsTrail t top → true_on t l ≡ true → true_on t (neg l) ≡ true → ⊥
not_both t top l shape a b =
    let p = place_of_true t l a in
    let q = place_of_true t (neg l) b in
    let e = shape.apart p.0 q.0 p.1 q.1 (ap var_of p.2 ∙ sym (var_of-neg l) ∙ ap var_of (sym q.2)) in
    neg-other l (sym q.2 ∙ ap (λ (z : ℕ). (step t z).lit) (sym e) ∙ p.2)

-- what is assumed and follows stands above the root
pub over_more : (root : List Step) (s : List (Option Stored)) (ids : List ℕ) (t u v : Trace) (x : Step) → u.steps ≡ t.steps ++ x ∷ [] → 0 < x.level → u.level ≡ x.level → Grown ids s u v → IsOver root t.steps → IsOver root v.steps
over_more root s ids t u v x eu lx lu g h = record {
  tail = (h.tail ++ x ∷ []) ++ g.tail;
  steps = g.steps ∙ ap (λ (z : List Step). z ++ g.tail) (eu ∙ ap (λ (z : List Step). z ++ x ∷ []) h.steps ∙ append_assoc root h.tail (x ∷ [])) ∙ append_assoc root (h.tail ++ x ∷ []) g.tail;
  above = λ i le lt.
      elim (cases_lt i (length u.steps)) [
        | inl less ↦
            (let e : step v.steps i ≡ step u.steps i = ap (λ (z : List Step). step z i) g.steps ∙ get_or_append_left u.steps g.tail no_step i less in
            let f : step u.steps i ≡ step (t.steps ++ x ∷ []) i = ap (λ (z : List Step). step z i) eu in
            let less' : i < length (t.steps ++ x ∷ []) = (let n = ap length eu in omega arith) in
            elim (old_or_new t.steps x i less') [
              | inl a ↦ (let k = e ∙ f ∙ step_old t.steps x i a in subst (λ (z : Step). 0 < z.level) (sym k) (h.above i le a))
              | inr a ↦ (let k : step v.steps i ≡ x = e ∙ f ∙ ap (step (t.steps ++ x ∷ [])) a ∙ step_new t.steps x in subst (λ (z : Step). 0 < z.level) (sym k) lx)
            ])
        | inr ge ↦ (let st = (g.implied i ge lt).stands in omega arith)
      ];
}

-- a literal without a value has a negation without one
pub value_neg : (t : List Step) (l : ℕ) → value_on t l ≡ None → value_on t (neg l) ≡ None
value_neg t l e = ap (λ (z : ℕ). cond (true_on t (neg l)) (Some true) (cond (true_on t z) (Some false) None)) (neg-neg l) ∙ turned (true_on t l) (true_on t (neg l)) e where
  turned : (a b : Bool) → cond a (Some true) (cond b (Some false) None) ≡ None → cond b (Some true) (cond a (Some false) None) ≡ None
  turned true b e = absurd (let f : Some true ≡ None = e in cc)
  turned false true e = absurd (let f : Some false ≡ None = e in cc)
  turned false false e = refl

pub false_value : (t : List Step) (l : ℕ) → value_on t l ≡ Some false → true_on t (neg l) ≡ true
false_value t l e = go (true_on t l) (true_on t (neg l)) e where
  go : (a b : Bool) → cond a (Some true) (cond b (Some false) None) ≡ Some false → b ≡ true
  go true b e = absurd (let f : Some true ≡ Some false = e in cc)
  go false true e = refl
  go false false e = absurd (let f : None ≡ Some false = e in cc)

-- where a literal is forced by nothing, a clause is false once it is assumed false
pub forced_fails : (s : List (Option Stored)) (id : ℕ) (given : List ℕ) (l : ℕ) → has given (neg l) ≡ true → Forced s id [] l → Fails s id given
forced_fails s id given _ i (start l none) = absurd (false≢true none)
forced_fails s id given _ i (unit l k ne firm' a others) = (
  k,
  ne,
  firm',
  λ m b.
      elim (cases_eq m l) [
        | inl e ↦ start (neg m) (subst (λ (z : ℕ). has given (neg z) ≡ true) (sym e) i)
        | inr d ↦ forced_more s id [] given (neg m) (λ n x. absurd (false≢true x)) (others m b d)
      ],
)

no_length : (c : List ℕ) → length c ≡ 0 → c ≡ []
no_length [] h = refl
no_length (x ∷ c) h = absurd (omega arith)

-- The first literal is assumed: it is true on the trail, or false.
pub first_fails : (s : List (Option Stored)) (id : ℕ) (kept : List ℕ) (lit : ℕ) (w : Watching) (t : Trace) → length kept ≡ 0 → Probes s id (negs kept) w t → true_on t.steps lit ≡ true → Fails s id (negs (kept ++ lit ∷ []))
first_fails s id kept lit w t z h on =
    let e = no_length kept z in
    let f : Forced s id [] lit = subst (λ (c : List ℕ). Forced s id (negs c) lit) e (forced_on s id (negs kept) t.steps lit h.forced on) in
    subst (λ (c : List ℕ). Fails s id (negs (c ++ lit ∷ []))) (sym e) (forced_fails s id (neg lit ∷ []) lit (or_left (eqb (neg lit) (neg lit)) false (eq-eqb (neg lit) (neg lit) refl)) f)

pub first_probes : (s : List (Option Stored)) (id : ℕ) (kept : List ℕ) (lit : ℕ) (w : Watching) (t : Trace) → length kept ≡ 0 → Probes s id (negs kept) w t → true_on t.steps (neg lit) ≡ true → Probes s id (negs (kept ++ lit ∷ [])) w t
first_probes s id kept lit w t z h on =
    let e = no_length kept z in
    let f : AreForced s id [] t.steps = subst (λ (c : List ℕ). AreForced s id (negs c) t.steps) e h.forced in
    subst (λ (c : List ℕ). Probes s id (negs (c ++ lit ∷ [])) w t) (sym e) (record {
      others = h.others;
      ready = h.ready;
      follows = h.follows;
      forced = λ i lt. forced_more s id [] (neg lit ∷ []) (step t.steps i).lit (λ n x. absurd (false≢true x)) (f i lt);
      given_true = λ l i. elim (or_cases (eqb (neg lit) l) false i) [ inl x ↦ subst (λ (y : ℕ). true_on t.steps y ≡ true) (eqb-true (neg lit) l x) on | inr x ↦ absurd (false≢true x) ];
    })

pub empty_where_valued : (t : List Step) (l : ℕ) (b : Bool) (kept : List ℕ) → value_on t l ≡ Some b → (0 < length kept → value_on t l ≡ None) → length kept ≡ 0
empty_where_valued t l b kept is free =
    elim (cases_eq (length kept) 0) [
      | inl z ↦ z
      | inr n ↦ absurd (let f : Some b ≡ None = sym is ∙ free (omega arith) in cc)
    ]
