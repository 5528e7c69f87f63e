-- What the rule makes of a clause that the root has all literals false of but one, which is true; and of a clause of one literal.
use Rattle.std.proofs.Common.{◌≡◌, ◌≢◌, ◌⊎◌, ℕ, suc, zero, ◌+◌, ◌<◌, ◌≤◌, Bool, true, false, not, eqb, cond, List, [], ◌∷◌, ◌++◌, length, get_or, take, Option, Some, None, IfSome, MatchOption, inl, inr, refl, sym, ap, ◌∙◌, subst, arith}
use Rattle.std.proofs.lemmas.Bool.{false≢true, cases_eq, cases_lt, or_cases, or_left, or_right, eqb-true, eq-eqb, ne_eqb}
use Rattle.std.specs.Option.{is_some}
use Rattle.std.proofs.lemmas.List.{get_or-take, get_or_default, length-take-le, length-append, take_more, take_all}
use Rattle.sat_terms.specs.Literal.{has, neg, var_of}
use Rattle.sat_terms.specs.Normal.{IsNormal}
use Rattle.sat_terms.specs.Truth.{clause_true, Implies, lit_true}
use Rattle.sat_terms.proofs.Literals.{neg-neg, neg-other, var_of-neg}
use Rattle.sat_terms.proofs.Truths.{clause_true-from, clause_true-some, lit_true-neg}
use Rattle.sat_terms.proofs.Members.{has_item, has_place, has_more, has_at, has-append_left, has-append_right}
use Rattle.clause_store.specs.Stored.{Stored, slot, slot_lits, is_firm, FirmTrue}
use Rattle.trail_state.specs.declared.trail.Step.{Step}
use Rattle.trail_state.specs.Trail.{Trace, step, no_step, true_on, value_on, IsTrail}
use Rattle.trail_state.specs.Clauses.{IsReason}
use Rattle.trail_state.proofs.Places.{place_of_true, true_at_place}
use Rattle.watch_lists.specs.Propagation.{Watching, AllQuiet}
use Rattle.firm_terms.specs.Vivifying.{Forced, Fails, negs, Vivifies, IsCalm, Calm}
use Rattle.firm_terms.specs.Vivifying.Forced.{start, unit}
use Rattle.vivify_pass.specs.Trailing.{AreTrue, Ready, IsSettled, IsHeld, held_form, KeepsRoot, OnlyMakes, Probed, Found}
use Rattle.vivify_pass.proofs.Forcing.{forced_more, forced_true, has_negs, result_implied}
use Rattle.vivify_pass.proofs.Trailing.{HasOthers, closed, never_fails, not_both}
use Rattle.vivify_pass.proofs.Probing.{IsBefore, before_at}

-- no literal of a normal clause is the negation of one
pub none_opposite : (c : List ℕ) (a x : ℕ) → IsNormal c → has c a ≡ true → has c x ≡ true → x ≡ neg a → ⊥
none_opposite c a x n ia ix e =
    let p = has_place c a 0 ia in
    let q = has_place c x 0 ix in
    let same : var_of (get_or c p.0 0) ≡ var_of (get_or c q.0 0) = ap var_of p.2 ∙ sym (var_of-neg a) ∙ ap var_of (sym e) ∙ ap var_of (sym q.2) in
    elim (cases_lt p.0 q.0) [
      | inl lt ↦ n.apart p.0 q.0 0 lt q.1 same
      | inr ge ↦
          elim (cases_eq p.0 q.0) [
            | inl z ↦ neg-other a (sym e ∙ sym q.2 ∙ ap (λ (k : ℕ). get_or c k 0) (sym z) ∙ p.2)
            | inr d ↦ n.apart q.0 p.0 0 (omega arith) p.1 (sym same)
          ]
    ]

negs_has : (c : List ℕ) (l : ℕ) → has c l ≡ true → has (negs c) (neg l) ≡ true
negs_has [] l h = absurd (false≢true h)
negs_has (x ∷ c) l h =
    elim (or_cases (eqb x l) (has c l) h) [
      | inl e ↦ or_left (eqb (neg x) (neg l)) (has (negs c) (neg l)) (eq-eqb (neg x) (neg l) (ap neg (eqb-true x l e)))
      | inr t ↦ or_right (eqb (neg x) (neg l)) (has (negs c) (neg l)) (negs_has c l t)
    ]

-- The others of a literal l of the clause are false whatever is assumed.
module _ (s : List (Option Stored)) (id : ℕ) (c : List ℕ) (l : ℕ) (nc : IsNormal c) (off : (m : ℕ) → has c m ≡ true → m ≢ l → Forced s id [] (neg m)) where
  off_more : (given : List ℕ) (m : ℕ) → has c m ≡ true → m ≢ l → Forced s id given (neg m)
  off_more given m i ne = forced_more s id [] given (neg m) (λ n x. absurd (false≢true x)) (off m i ne)

  -- once it is assumed, no literal of the clause is true unless a clause is false
  both : (assumed : List ℕ) → has assumed l ≡ true → ((m : ℕ) → has assumed m ≡ true → has c m ≡ true) → (x : ℕ) → has c x ≡ true → Forced s id (negs assumed) x → Fails s id (negs assumed)
  both assumed there sub x i f =
      let out : Forced s id (negs assumed) (neg x) = elim (cases_eq x l) [
        | inl e ↦ start (neg x) (subst (λ (z : ℕ). has (negs assumed) (neg z) ≡ true) (sym e) (negs_has assumed l there))
        | inr n ↦ off_more (negs assumed) x i n
      ] in
      fails x i out f where
        fails : (x : ℕ) → has c x ≡ true → Forced s id (negs assumed) (neg x) → Forced s id (negs assumed) x → Fails s id (negs assumed)
        fails _ i out (start x a) = absurd (none_opposite c (neg x) x nc (sub (neg x) (has_negs assumed x a)) i (sym (neg-neg x)))
        fails _ i out (unit x k ne firm' a others) =
            (k, ne, firm', λ m b. elim (cases_eq m x) [ inl e ↦ subst (λ (z : ℕ). Forced s id (negs assumed) (neg z)) (sym e) out | inr d ↦ others m b d ])

  -- so the rule ends with what was assumed
  pub ends_there : (assumed rest new : List ℕ) → has assumed l ≡ true → ((m : ℕ) → has assumed m ≡ true → has c m ≡ true) → ((m : ℕ) → has rest m ≡ true → (has c m ≡ true) × (m ≢ l)) → 0 < length assumed → Vivifies s id c assumed rest new → new ≡ assumed
  ends_there assumed [] new there sub left some x =
      elim x [
        | inl a ↦ elim a.1 [ inl y ↦ y.1 | inr y ↦ absurd (y.0 (both assumed there sub y.1.0 y.1.1 y.1.2)) ]
        | inr b ↦ b.1
      ]
  ends_there assumed (m ∷ rest) new there sub left some x =
      elim x [
        | inl a ↦ elim a.1 [ inl y ↦ y.1 | inr y ↦ absurd (y.0 (both assumed there sub y.1.0 y.1.1 y.1.2)) ]
        | inr b ↦
            elim b.1 [
              | inl skip ↦ ends_there assumed rest new there sub (λ n i. left n (or_right (eqb m n) (has rest n) i)) some skip.2
              | inr take' ↦
                  (let at = left m (or_left (eqb m m) (has rest m) (eq-eqb m m refl)) in
                  absurd (take'.0 some (off_more (negs assumed) m at.0 at.1)))
            ]
      ]

-- the literals of a normal clause behind one are others
normal_rest : (x : ℕ) (c : List ℕ) → IsNormal (x ∷ c) → IsNormal c
normal_rest x c n = record {
  rising = λ i j d lt in'. n.rising (suc i) (suc j) d (omega arith) (omega arith);
  apart = λ i j d lt in'. n.apart (suc i) (suc j) d (omega arith) (omega arith);
}

normal_others : (x : ℕ) (c : List ℕ) → IsNormal (x ∷ c) → (m : ℕ) → has c m ≡ true → m ≢ x
normal_others x c n m i e =
    let p = has_place c m 0 i in
    let in' = p.1 in
    let r = n.rising 0 (suc p.0) 0 (omega arith) (omega arith) in
    let q = p.2 ∙ e in
    omega arith

-- A clause of at most one literal stays whole.
pub only_whole : (s : List (Option Stored)) (id : ℕ) (c : List ℕ) → IsNormal c → length c < 2 → OnlyMakes s id c c
only_whole s id [] n short other x =
    elim x [
      | inl a ↦ (let lt = a.0 in absurd (omega arith))
      | inr b ↦ b.1
    ]
only_whole s id (l ∷ []) n short other x =
    let off : (m : ℕ) → has (l ∷ []) m ≡ true → m ≢ l → Forced s id [] (neg m) = λ m i ne. elim (or_cases (eqb l m) false i) [ inl e ↦ absurd (ne (sym (eqb-true l m e))) | inr f ↦ absurd (false≢true f) ] in
    elim x [
      | inl a ↦ (let lt = a.0 in absurd (omega arith))
      | inr b ↦
          elim b.1 [
            | inl skip ↦ (let lt = skip.0 in absurd (omega arith))
            | inr take' ↦ ends_there s id (l ∷ []) l n off (l ∷ []) [] other (or_left (eqb l l) false (eq-eqb l l refl)) (λ m i. i) (λ m i. absurd (false≢true i)) (omega arith) take'.1
          ]
    ]
only_whole s id (l ∷ k ∷ c) n short other x = absurd (omega arith)

short_calm : (s : List (Option Stored)) (id : ℕ) (c : List ℕ) → length c < 2 → Calm s id c
short_calm s id c short front back l e some = absurd (let n = ap length e in let m = length-append front (l ∷ back) in omega arith)

pub found_whole : (s : List (Option Stored)) (id : ℕ) (c new : List ℕ) → is_firm (slot s id) ≡ true → c ≡ slot_lits (slot s id) → IsNormal c → length c < 2 → new ≡ c → Found s id c new
found_whole s id c new firm' is n short e = rw e (record {
  short = omega arith;
  calm = λ le. short_calm s id c short;
  normal = n;
  within = λ l i. i;
  implied = λ f h. subst (λ (z : List ℕ). clause_true f z ≡ true) (sym is) (h id firm');
})

pub keeps_whole : (c new : List ℕ) (t : List Step) → new ≡ c → KeepsRoot c new t
keeps_whole c new t e i lt r = rw e r.holds

-- A clause of which the root has one literal true, and all others false.
module _ (s : List (Option Stored)) (id : ℕ) (c : List ℕ) (l top : ℕ) (w : Watching) (t : Trace)
    (ready : Ready s w t) (settled : IsSettled w.attached s t.steps) (firm' : is_firm (slot s id) ≡ true) (is : c ≡ slot_lits (slot s id)) (nc : IsNormal c) (shape : IsTrail t.steps top) (held : IsHeld t.steps c l) where
  quiet : AllQuiet w.attached s t.steps
  quiet = settled l held.on

  others : HasOthers s id w.attached
  others k ne f = ready.whole k f

  -- the clause is a reason for no other step
  only_there : (i : ℕ) → i < length t.steps → IsReason (slot_lits (slot s id)) t.steps i → (step t.steps i).lit ≡ l
  only_there i lt r =
      let x = (step t.steps i).lit in
      elim (cases_eq x l) [
        | inl e ↦ e
        | inr n ↦ absurd (not_both t.steps top x shape (true_at_place t.steps i x lt refl) (held.off x (subst (λ (z : List ℕ). has z x ≡ true) (sym is) r.holds) n))
      ]

  place_on' : (j : ℕ) × (j < length t.steps) × ((step t.steps j).lit ≡ l)
  place_on' = place_of_true t.steps l held.on

  there : (i : ℕ) → i < length t.steps → IsReason (slot_lits (slot s id)) t.steps i → i ≡ place_on'.0
  there i lt r = shape.apart i place_on'.0 lt place_on'.1 (ap var_of (only_there i lt r ∙ sym place_on'.2))

  -- what is true before a place is forced where the steps before it are
  front_forced : (i m : ℕ) → i < length t.steps → ((j : ℕ) → j < i → Forced s id [] (step t.steps j).lit) → true_on (take i t.steps) m ≡ true → Forced s id [] m
  front_forced i m lt less on =
      let p = place_of_true (take i t.steps) m on in
      let lt' : p.0 < i = (let q = p.1 in let k = length-take-le i t.steps (omega arith) in omega arith) in
      let f : (step t.steps p.0).lit ≡ m = ap (λ (z : Step). z.lit) (sym (get_or-take i t.steps p.0 no_step lt')) ∙ p.2 in
      subst (λ (z : ℕ). Forced s id [] z) f (less p.0 lt')

  -- one step is forced without it, where the steps before are
  by_other : (i : ℕ) → (lt : i < length t.steps) → i ≢ place_on'.0 → ((j : ℕ) → j < i → Forced s id [] (step t.steps j).lit) → Forced s id [] (step t.steps i).lit
  by_other i lt ne less =
      let r = ready.rooted i lt in
      let apart : r.by ≢ id = λ e. ne (there i lt (subst (λ (k : ℕ). IsReason (slot_lits (slot s k)) t.steps i) e r.implied)) in
      unit (step t.steps i).lit r.by apart (ready.sound r.by r.attached) r.implied.holds (λ m y d. front_forced i (neg m) lt less (r.implied.others m y d))

  -- those before the true literal are
  before : (n i : ℕ) → i < n → i < place_on'.0 → Forced s id [] (step t.steps i).lit
  before zero i a b = absurd (omega arith)
  before (suc n) i a b =
      let in' = place_on'.1 in
      by_other i (omega arith) (λ e. (let z = e in omega arith)) (λ j lt. before n j (omega arith) (omega arith))

  -- and all are, where it is
  all_steps : Forced s id [] l → (n i : ℕ) → i < n → i < length t.steps → Forced s id [] (step t.steps i).lit
  all_steps f zero i a b = absurd (omega arith)
  all_steps f (suc n) i a b =
      elim (cases_eq i place_on'.0) [
        | inl e ↦ subst (λ (z : ℕ). Forced s id [] z) (sym (ap (λ (k : ℕ). (step t.steps k).lit) e ∙ place_on'.2)) f
        | inr d ↦ by_other i b d (λ j lt. all_steps f n j (omega arith) (omega arith))
      ]

  -- so the others are false without the clause
  pub off_forced : (m : ℕ) → has c m ≡ true → m ≢ l → Forced s id [] (neg m)
  off_forced m i ne =
      let p = place_on' in
      let r = ready.rooted p.0 p.1 in
      elim (cases_eq r.by id) [
        | inl e ↦
            (let was : IsReason (slot_lits (slot s id)) t.steps p.0 = subst (λ (k : ℕ). IsReason (slot_lits (slot s k)) t.steps p.0) e r.implied in
            front_forced p.0 (neg m) p.1 (λ j lt. before (suc j) j (omega arith) lt) (was.others m (subst (λ (z : List ℕ). has z m ≡ true) is i) (λ x. ne (x ∙ p.2))))
        | inr n ↦
            (let f : Forced s id [] (step t.steps p.0).lit = unit (step t.steps p.0).lit r.by n (ready.sound r.by r.attached) r.implied.holds
            (λ k y d. front_forced p.0 (neg k) p.1 (λ j lt. before (suc j) j (omega arith) lt) (r.implied.others k y d)) in
            let q = place_of_true t.steps (neg m) (held.off m i ne) in
            subst (λ (z : ℕ). Forced s id [] z) q.2 (all_steps (subst (λ (z : ℕ). Forced s id [] z) p.2 f) (suc q.0) q.0 (omega arith) q.1))
      ]

  -- nothing more follows where another literal of it is assumed
  module _ (first : ℕ) (in' : has c first ≡ true) (apart : first ≢ l) where
    given : AreTrue (negs (first ∷ [])) t.steps
    given m i = elim (or_cases (eqb (neg first) m) false i) [ inl e ↦ subst (λ (z : ℕ). true_on t.steps z ≡ true) (eqb-true (neg first) m e) (held.off first in' apart) | inr f ↦ absurd (false≢true f) ]

    stands : Fails s id (negs (first ∷ [])) → ⊥
    stands = never_fails s id (negs (first ∷ [])) w.attached t.steps others quiet given

    only_true : (m : ℕ) → has c m ≡ true → Forced s id (negs (first ∷ [])) m → m ≡ l
    only_true m i f =
        elim (cases_eq m l) [
          | inl e ↦ e
          | inr n ↦ absurd (not_both t.steps top m shape (closed s id (negs (first ∷ [])) w.attached t.steps m others quiet given f) (held.off m i n))
        ]

    not_out : Forced s id (negs (first ∷ [])) (neg l) → ⊥
    not_out f = not_both t.steps top l shape held.on (closed s id (negs (first ∷ [])) w.attached t.steps (neg l) others quiet given f)

    -- so the rule ends with it and the true one
    ends_with : (rest new : List ℕ) → IsNormal rest → ((m : ℕ) → has rest m ≡ true → has c m ≡ true) → has rest l ≡ true → Vivifies s id c (first ∷ []) rest new → new ≡ first ∷ l ∷ []
    ends_with [] new n sub there' x = absurd (false≢true there')
    ends_with (m ∷ rest) new n sub there' x =
        elim x [
          | inl a ↦
              elim a.1 [
                | inl y ↦ absurd (stands y.0)
                | inr y ↦ y.1.3 ∙ ap (λ (z : ℕ). first ∷ z ∷ []) (only_true y.1.0 y.1.1 y.1.2)
              ]
          | inr b ↦
              elim (cases_eq m l) [
                | inl e ↦
                    elim b.1 [
                      | inl skip ↦ absurd (not_out (subst (λ (z : ℕ). Forced s id (negs (first ∷ [])) (neg z)) e skip.1))
                      | inr take' ↦
                          ends_there s id c l nc off_forced (first ∷ l ∷ []) rest new (or_right (eqb first l) (has (l ∷ []) l) (or_left (eqb l l) false (eq-eqb l l refl)))
                          (λ k i. elim (or_cases (eqb first k) (has (l ∷ []) k) i) [
                            | inl f ↦ subst (λ (z : ℕ). has c z ≡ true) (eqb-true first k f) in'
                            | inr g ↦ elim (or_cases (eqb l k) false g) [ inl f ↦ subst (λ (z : ℕ). has c z ≡ true) (eqb-true l k f) held.holds | inr f ↦ absurd (false≢true f) ]
                          ])
                          (λ k i. (sub k (or_right (eqb m k) (has rest k) i), λ z. normal_others m rest n k i (z ∙ sym e)))
                          (omega arith) (subst (λ (z : ℕ). Vivifies s id c (first ∷ z ∷ []) rest new) e take'.1)
                    ]
                | inr d ↦
                    elim b.1 [
                      | inl skip ↦
                          ends_with rest new (normal_rest m rest n) (λ k i. sub k (or_right (eqb m k) (has rest k) i))
                          (elim (or_cases (eqb m l) (has rest l) there') [ inl f ↦ absurd (d (eqb-true m l f)) | inr g ↦ g ]) skip.2
                      | inr take' ↦
                          absurd (take'.0 (omega arith) (forced_more s id [] (negs (first ∷ [])) (neg m) (λ k i. absurd (false≢true i)) (off_forced m (sub m (or_left (eqb m m) (has rest m) (eq-eqb m m refl))) d)))
                    ]
              ]
        ]

  -- what comes out
  pub only_held : OnlyMakes s id c (held_form c l)
  only_held other x = go c refl x where
    go : (d : List ℕ) → c ≡ d → Vivifies s id c [] d other → other ≡ held_form d l
    go [] e x = absurd (false≢true (subst (λ (z : List ℕ). has z l ≡ true) e held.holds))
    go (first ∷ rest) e x =
        let n : IsNormal (first ∷ rest) = subst (λ (z : List ℕ). IsNormal z) e nc in
        let back : (m : ℕ) → has (first ∷ rest) m ≡ true → has c m ≡ true = λ m i. subst (λ (z : List ℕ). has z m ≡ true) (sym e) i in
        let first_in : has c first ≡ true = back first (or_left (eqb first first) (has rest first) (eq-eqb first first refl)) in
        elim x [
          | inl a ↦ (let lt = a.0 in absurd (omega arith))
          | inr b ↦
              elim b.1 [
                | inl skip ↦ (let lt = skip.0 in absurd (omega arith))
                | inr take' ↦
                    elim (cases_eq first l) [
                      | inl z ↦
                          rw (eq-eqb first l z)
                          (ends_there s id c l nc off_forced (first ∷ []) rest other (or_left (eqb first l) false (eq-eqb first l z))
                          (λ k i. elim (or_cases (eqb first k) false i) [ inl f ↦ subst (λ (y : ℕ). has c y ≡ true) (eqb-true first k f) first_in | inr f ↦ absurd (false≢true f) ])
                          (λ k i. (back k (or_right (eqb first k) (has rest k) i), λ y. normal_others first rest n k i (y ∙ sym z)))
                          (omega arith) take'.1)
                      | inr d ↦
                          rw (ne_eqb first l d)
                          (ends_with first first_in d rest other (normal_rest first rest n) (λ k i. back k (or_right (eqb first k) (has rest k) i))
                          (elim (or_cases (eqb first l) (has rest l) (subst (λ (y : List ℕ). has y l ≡ true) e held.holds)) [ inl f ↦ absurd (d (eqb-true first l f)) | inr g ↦ g ]) take'.1)
                    ]
              ]
        ]

  -- the new clause holds the true literal
  form_holds : (d : List ℕ) → 0 < length d → has (held_form d l) l ≡ true
  form_holds [] some = absurd (omega arith)
  form_holds (x ∷ d) some =
      elim (cases_eq x l) [
        | inl e ↦ rw (eq-eqb x l e) (or_left (eqb x l) false (eq-eqb x l e))
        | inr n ↦ rw (ne_eqb x l n) (or_right (eqb x l) (has (l ∷ []) l) (or_left (eqb l l) false (eq-eqb l l refl)))
      ]

  pub keeps_held : (new : List ℕ) → 0 < length c → new ≡ held_form c l → KeepsRoot c new t.steps
  keeps_held new some e i lt r =
      let at : (step t.steps i).lit ≡ l = only_there i lt (subst (λ (z : List ℕ). IsReason z t.steps i) is r) in
      subst (λ (z : List ℕ). has z (step t.steps i).lit ≡ true) (sym e) (subst (λ (z : ℕ). has (held_form c l) z ≡ true) (sym at) (form_holds c some))

  form_within : (d : List ℕ) → has d l ≡ true → (m : ℕ) → has (held_form d l) m ≡ true → has d m ≡ true
  form_within [] h m i = absurd (false≢true i)
  form_within (x ∷ d) h m i =
      elim (cases_eq x l) [
        | inl e ↦ (let i' : has (x ∷ []) m ≡ true = rw (eq-eqb x l e) at i in elim (or_cases (eqb x m) false i') [ inl f ↦ or_left (eqb x m) (has d m) f | inr f ↦ absurd (false≢true f) ])
        | inr n ↦
            (let i' : has (x ∷ l ∷ []) m ≡ true = rw (ne_eqb x l n) at i in
            elim (or_cases (eqb x m) (has (l ∷ []) m) i') [
              | inl f ↦ or_left (eqb x m) (has d m) f
              | inr g ↦ elim (or_cases (eqb l m) false g) [ inl f ↦ subst (λ (z : ℕ). has (x ∷ d) z ≡ true) (eqb-true l m f) h | inr f ↦ absurd (false≢true f) ]
            ])
      ]

  form_normal : (d : List ℕ) → IsNormal d → has d l ≡ true → IsNormal (held_form d l)
  form_normal [] n h = n
  form_normal (x ∷ d) n h =
      elim (cases_eq x l) [
        | inl e ↦ rw (eq-eqb x l e) (record { rising = λ i j k lt in'. absurd (omega arith); apart = λ i j k lt in'. absurd (omega arith) })
        | inr ne ↦
            (let there' : has d l ≡ true = elim (or_cases (eqb x l) (has d l) h) [ inl f ↦ absurd (ne (eqb-true x l f)) | inr g ↦ g ] in
            let p = has_place d l 0 there' in
            let in' = p.1 in
            let b : IsBefore x l = subst (λ (z : ℕ). IsBefore x z) p.2 (before_at (x ∷ d) 0 (suc p.0) n (omega arith) (omega arith)) in
            rw (ne_eqb x l ne) (pair_normal x l b))
      ] where
        pair_normal : (x l : ℕ) → IsBefore x l → IsNormal (x ∷ l ∷ [])
        pair_normal x l b = record { rising = λ i j k lt in'. (both x l b i j k lt in').less; apart = λ i j k lt in'. (both x l b i j k lt in').apart } where
          both : (x l : ℕ) → IsBefore x l → (i j k : ℕ) → i < j → j < 2 → IsBefore (get_or (x ∷ l ∷ []) i k) (get_or (x ∷ l ∷ []) j k)
          both x l b zero zero k lt in' = absurd (omega arith)
          both x l b zero (suc zero) k lt in' = b
          both x l b zero (suc (suc j)) k lt in' = absurd (omega arith)
          both x l b (suc i) j k lt in' = absurd (omega arith)

  form_short : (d : List ℕ) → 2 ≤ length d → length (held_form d l) ≤ length d
  form_short [] le = le_zero where
    le_zero : 0 ≤ 0
    le_zero = omega arith
  form_short (x ∷ d) le =
      elim (cases_eq x l) [
        | inl e ↦ rw (eq-eqb x l e) (omega arith)
        | inr n ↦ rw (ne_eqb x l n) (omega arith)
      ]

  -- it is calm where it stays as long: it has two literals then, and the true one is the second
  form_calm : 2 ≤ length c → length c ≤ length (held_form c l) → Calm s id c
  form_calm long le front back x e some =
      go c refl le front back x e some where
        go : (d : List ℕ) → c ≡ d → length d ≤ length (held_form d l) → (front back : List ℕ) (x : ℕ) → c ≡ front ++ x ∷ back → 0 < length front → IsCalm s id c front x back
        go [] e le front back x f some = absurd (false≢true (subst (λ (z : List ℕ). has z l ≡ true) e held.holds))
        go (first ∷ []) e le front back x f some = absurd (let n = ap length e in omega arith)
        go (first ∷ second ∷ k ∷ d) e le front back x f some =
            elim (cases_eq first l) [
              | inl z ↦ absurd (let le' : length (first ∷ second ∷ k ∷ d) ≤ 1 = rw (eq-eqb first l z) at le in omega arith)
              | inr z ↦ absurd (let le' : length (first ∷ second ∷ k ∷ d) ≤ 2 = rw (ne_eqb first l z) at le in omega arith)
            ]
        go (first ∷ second ∷ []) e le (y ∷ []) [] x f some =
            let g = sym e ∙ f in
            let a : first ≡ y = ap (λ (z : List ℕ). get_or z 0 0) g in
            let b : second ≡ x = ap (λ (z : List ℕ). get_or z 1 0) g in
            elim (cases_eq first l) [
              | inl z ↦ absurd (let le' : 2 ≤ 1 = rw (eq-eqb first l z) at le in omega arith)
              | inr z ↦
                  (let first_in : has c first ≡ true = subst (λ (v : List ℕ). has v first ≡ true) (sym e) (or_left (eqb first first) (has (second ∷ []) first) (eq-eqb first first refl)) in
                  let last : second ≡ l = elim (or_cases (eqb first l) (has (second ∷ []) l) (subst (λ (v : List ℕ). has v l ≡ true) e held.holds)) [
                    | inl h ↦ absurd (z (eqb-true first l h))
                    | inr h ↦ elim (or_cases (eqb second l) false h) [ inl i ↦ eqb-true second l i | inr i ↦ absurd (false≢true i) ]
                  ] in
                  subst (λ (v : ℕ). IsCalm s id c (v ∷ []) x []) a (record {
                    stands = stands first first_in z;
                    free = λ h. not_out first first_in z (subst (λ (v : ℕ). Forced s id (negs (first ∷ [])) (neg v)) (sym b ∙ last) h);
                    open_yet = λ lt. absurd (omega arith);
                  }))
            ]
        go (first ∷ second ∷ []) e le [] back x f some = absurd (omega arith)
        go (first ∷ second ∷ []) e le (y ∷ []) (z ∷ back) x f some = absurd (let n = ap length (sym e ∙ f) in omega arith)
        go (first ∷ second ∷ []) e le (y ∷ z ∷ front) back x f some = absurd (let n = ap length (sym e ∙ f) in let m = length-append front (x ∷ back) in omega arith)

  -- it is implied: the others of the clause are false wherever the firm clauses are true
  form_implied : (new : List ℕ) → has new l ≡ true → Implies (FirmTrue s) new
  form_implied new h f firms =
      let r = clause_true-some f c (subst (λ (z : List ℕ). clause_true f z ≡ true) (sym is) (firms id firm')) in
      elim (cases_eq r.0 l) [
        | inl e ↦ clause_true-from f new l h (subst (λ (z : ℕ). lit_true f z ≡ true) e r.2)
        | inr n ↦ absurd (false≢true (sym (lit_true-neg f r.0 ∙ ap not r.2) ∙ forced_true s id [] (neg r.0) f firms (λ m i. absurd (false≢true i)) (off_forced r.0 r.1 n)))
      ]

  pub found_held : (new : List ℕ) → 2 ≤ length c → new ≡ held_form c l → Found s id c new
  found_held new long e = rw e (record {
    short = form_short c long;
    calm = form_calm long;
    normal = form_normal c nc held.holds;
    within = form_within c held.holds;
    implied = form_implied (held_form c l) (form_holds c (omega arith));
  })

-- what a look at some literals found
abbrev pub HeldIn : List Step → List ℕ → Option ℕ → Type 0
HeldIn t c None = (m : ℕ) → has c m ≡ true → true_on t (neg m) ≡ true
HeldIn t c (Some l) = IsHeld t c l

pub held_none : (t : List Step) (c : List ℕ) → HeldIn t (take 0 c) None
held_none t c = λ m i. absurd (false≢true i)

-- one more is false
pub held_false : (t : List Step) (c : List ℕ) (i x : ℕ) (found : Option ℕ) → i < length c → x ≡ get_or c i x → true_on t (neg x) ≡ true → HeldIn t (take i c) found → HeldIn t (take (i + 1) c) found
held_false t c i x None in' read off h = λ m a. elim (has_more c i x m in' read a) [ inl b ↦ h m b | inr e ↦ subst (λ (z : ℕ). true_on t (neg z) ≡ true) e off ]
held_false t c i x (Some l) in' read off h = record {
  holds = has_again c i x l in' read h.holds;
  on = h.on;
  off = λ m a ne. elim (has_more c i x m in' read a) [ inl b ↦ h.off m b ne | inr e ↦ subst (λ (z : ℕ). true_on t (neg z) ≡ true) e off ];
} where
  has_again : (c : List ℕ) (i x l : ℕ) → i < length c → x ≡ get_or c i x → has (take i c) l ≡ true → has (take (i + 1) c) l ≡ true
  has_again c i x l in' read h = subst (λ (z : List ℕ). has z l ≡ true) (sym (take_more c i x in')) (has-append_left (take i c) (get_or c i x ∷ []) l h)

-- the first true one
pub held_true : (t : List Step) (c : List ℕ) (i x : ℕ) → i < length c → x ≡ get_or c i x → true_on t x ≡ true → HeldIn t (take i c) None → HeldIn t (take (i + 1) c) (Some x)
held_true t c i x in' read on h = record {
  holds = subst (λ (z : List ℕ). has z x ≡ true) (sym (take_more c i x in')) (has-append_right (take i c) (get_or c i x ∷ []) x (or_left (eqb (get_or c i x) x) false (eq-eqb (get_or c i x) x (sym read))));
  on = on;
  off = λ m a ne. elim (has_more c i x m in' read a) [ inl b ↦ h m b | inr e ↦ absurd (ne (sym e)) ];
}

-- one without a value, and a second true one
pub held_open : (t : List Step) (c : List ℕ) (i x l : ℕ) → i < length c → x ≡ get_or c i x → value_on t x ≡ None → IsHeld t c l → ⊥
held_open t c i x l in' read open' h =
    elim (cases_eq x l) [
      | inl e ↦ no (true_on t x) (true_on t (neg x)) (inl (subst (λ (z : ℕ). true_on t z ≡ true) (sym e) h.on)) open'
      | inr n ↦ no (true_on t x) (true_on t (neg x)) (inr (h.off x (has_at c i x in' read) n)) open'
    ] where
      no : (a b : Bool) → (a ≡ true) ⊎ (b ≡ true) → cond a (Some true) (cond b (Some false) None) ≡ None → ⊥
      no true b e f = absurd (let g : Some true ≡ None = f in cc)
      no false true e f = absurd (let g : Some false ≡ None = f in cc)
      no false false e f = elim e [ inl x ↦ false≢true x | inr x ↦ false≢true x ]

pub held_second : (t : List Step) (top : ℕ) (c : List ℕ) (i x f l : ℕ) → IsTrail t top → IsNormal c → i < length c → x ≡ get_or c i x → true_on t x ≡ true → HeldIn t (take i c) (Some f) → IsHeld t c l → ⊥
held_second t top c i x f l shape n in' read on before' h =
    let p = has_place (take i c) f 0 before'.holds in
    let lt : p.0 < i = (let q = p.1 in let k = length-take-le i c (omega arith) in omega arith) in
    let at : get_or c p.0 0 ≡ f = sym (get_or-take i c p.0 0 lt) ∙ p.2 in
    let there : get_or c i 0 ≡ x = get_or_default c i 0 x in' ∙ sym read in
    let less : f < x = (let r = n.rising p.0 i 0 lt in' in omega arith) in
    elim (cases_eq x l) [
      | inl e ↦ not_both t top f shape before'.on (h.off f (subst (λ (z : ℕ). has c z ≡ true) at (has_item c p.0 0 (omega arith))) (λ z. (let a = z in let b = e in omega arith)))
      | inr d ↦ not_both t top x shape on (h.off x (has_at c i x in' read) d)
    ]

pub held_all : (t : List Step) (top : ℕ) (c : List ℕ) (i : ℕ) (found : Option ℕ) → IsTrail t top → length c ≤ i → HeldIn t (take i c) found → MatchOption found ((l : ℕ) → IsHeld t c l → ⊥) (λ l. IsHeld t c l)
held_all t top c i None shape le h = λ l held. not_both t top l shape held.on (h l (subst (λ (z : List ℕ). has z l ≡ true) (sym (take_all i c le)) held.holds))
held_all t top c i (Some l) shape le h = subst (λ (z : List ℕ). IsHeld t z l) (take_all i c le) h

pub held_twice : (t : List Step) (top : ℕ) (c : List ℕ) (i x : ℕ) (found : Option ℕ) → IsTrail t top → IsNormal c → i < length c → x ≡ get_or c i x → true_on t x ≡ true → true ≡ is_some found → HeldIn t (take i c) found → (l : ℕ) → IsHeld t c l → ⊥
held_twice t top c i x None shape n in' read on some h l = absurd (false≢true (sym some))
held_twice t top c i x (Some f) shape n in' read on some h l = held_second t top c i x f l shape n in' read on h

pub if_found : {A : Type 0} (x : Option A) (P Q : A → Type 0) → ((a : A) → P a → Q a) → IfSome x P → IfSome x Q
if_found None P Q f h = h
if_found (Some a) P Q f h = f a h

-- a clause that is a reason for a step has its literal true and all others false
pub reason_held : (t : List Step) (c : List ℕ) (i : ℕ) → i < length t → IsReason c t i → IsHeld t c (step t i).lit
reason_held t c i lt r = record {
  holds = r.holds;
  on = true_at_place t i (step t i).lit lt refl;
  off = λ m a ne.
      let p = place_of_true (take i t) (neg m) (r.others m a ne) in
      let lt' : p.0 < i = (let q = p.1 in let k = length-take-le i t (omega arith) in omega arith) in
      true_at_place t p.0 (neg m) (omega arith) (ap (λ (z : Step). z.lit) (sym (get_or-take i t p.0 no_step lt')) ∙ p.2);
}

-- what the rule makes is implied
pub found_probed : (s : List (Option Stored)) (id : ℕ) (c new : List ℕ) → is_firm (slot s id) ≡ true → c ≡ slot_lits (slot s id) → Probed s id c new → Found s id c new
found_probed s id c new firm' is p = record {
  short = p.short;
  calm = p.calm;
  normal = p.normal;
  within = p.within;
  implied = result_implied s id new firm' (subst (λ (z : List ℕ). Vivifies s id z [] z new) is p.made);
}
