-- What holds while the literals of a clause are assumed one after another.
use Rattle.std.proofs.Common.{◌≡◌, ◌≢◌, ℕ, ◌+◌, ◌<◌, ◌≤◌, true, false, eqb, List, [], ◌∷◌, ◌++◌, length, get_or, take, drop, Option, None, inl, inr, refl, sym, ap, ◌∙◌, subst, arith}
use Rattle.std.proofs.lemmas.Bool.{false≢true, cases_lt, or_cases, or_left, false_from_ne_true, eqb-true, eq-eqb}
use Rattle.std.proofs.lemmas.List.{length_push, length-append, get_or_append_left, get_or_push, take_more, drop_more, drop_all, take_at, get_or_at, get_or_default}
use Rattle.sat_terms.specs.Literal.{has, neg, var_of}
use Rattle.clause_store.specs.Stored.{Stored}
use Rattle.trail_state.specs.declared.trail.Step.{Step}
use Rattle.trail_state.specs.Trail.{Trace, true_on, value_on, IsTrail}
use Rattle.watch_lists.specs.Propagation.{Watching}
use Rattle.firm_terms.specs.Vivifying.{Forced, Fails, negs, IsOpen, Stops, Vivifies, IsCalm, Calm}
use Rattle.vivify_pass.specs.Trailing.{IsOver, IsSettled, Probes, Probed}
use Rattle.vivify_pass.proofs.Trailing.{forced_on, not_both, negs_more}
use Rattle.vivify_pass.proofs.Rooting.{over_none}
use Rattle.sat_terms.proofs.Members.{has-append_right, has-append_cases, has_at, has_place}
use Rattle.sat_terms.specs.Normal.{IsNormal}

-- nothing was found, and the trail has all that is forced
abbrev pub Still : List (Option Stored) → ℕ → List ℕ → List ℕ → List Step → Type 0
Still s id c given t = (Fails s id given → ⊥) × ((l : ℕ) → has c l ≡ true → Forced s id given l → ⊥) × ((l : ℕ) → Forced s id given l → true_on t l ≡ true)

-- the clause is calm wherever it is cut before a place
abbrev pub CalmBelow : List (Option Stored) → ℕ → List ℕ → ℕ → Type 0
CalmBelow s id c i = (front back : List ℕ) (l : ℕ) → c ≡ front ++ l ∷ back → 0 < length front → length front < i → IsCalm s id c front l back

-- a literal may stand before another in a normal clause
pub record IsBefore (x y : ℕ) : Type 0 where
  pub less : x < y
  pub apart : var_of x ≢ var_of y

normal_push : (c : List ℕ) (l : ℕ) → IsNormal c → ((x : ℕ) → has c x ≡ true → IsBefore x l) → IsNormal (c ++ l ∷ [])
normal_push c l n h = record {
  rising = λ i j d lt in'. let k = both i j d lt in' in k.less;
  apart = λ i j d lt in'. let k = both i j d lt in' in k.apart;
} where
  both : (i j d : ℕ) → i < j → j < length (c ++ l ∷ []) → IsBefore (get_or (c ++ l ∷ []) i d) (get_or (c ++ l ∷ []) j d)
  both i j d lt in' =
      let lc = length_push c l in
      let il : i < length c = omega arith in
      let ei = get_or_append_left c (l ∷ []) d i il in
      elim (cases_lt j (length c)) [
        | inl less ↦ (let ej = get_or_append_left c (l ∷ []) d j less in rw (ei, ej) (record { less = n.rising i j d lt less; apart = n.apart i j d lt less }))
        | inr ge ↦ (let ej : get_or (c ++ l ∷ []) j d ≡ l = get_or_push c l d j (omega arith) in rw (ei, ej) (h (get_or c i d) (has_at c i (get_or c i d) il (get_or_default c i d (get_or c i d) il))))
      ]

pub before_at : (c : List ℕ) (i j : ℕ) → IsNormal c → i < j → j < length c → IsBefore (get_or c i 0) (get_or c j 0)
before_at c i j n lt in' = record { less = n.rising i j 0 lt in'; apart = n.apart i j 0 lt in' }

normal_empty : IsNormal []
normal_empty = record { rising = λ i j d lt in'. absurd (omega arith); apart = λ i j d lt in'. absurd (omega arith) }

pub record Probing (s : List (Option Stored)) (id : ℕ) (c : List ℕ) (i : ℕ) (kept : List ℕ) (w0 w : Watching) (t0 t : Trace) : Type 0 where
  pub probes : Probes s id (negs kept) w t
  pub over : IsOver t0.steps t.steps
  pub lists : w.declared ≡ w0.declared
  pub same : w.attached ≡ w0.attached
  pub declared : t.declared ≡ t0.declared
  pub settled : length kept ≡ 0 → IsSettled w.attached s t.steps
  pub few : length kept ≤ i
  pub still : 0 < length kept → Still s id c (negs kept) t.steps
  pub passed : (j : ℕ) → j < i → true_on t.steps (neg (get_or c j 0)) ≡ true
  pub goes_on : (new : List ℕ) → Vivifies s id c kept (drop i c) new → Vivifies s id c [] c new
  pub calm : length kept ≡ i → (kept ≡ take i c) × CalmBelow s id c i
  pub clause : IsNormal c
  pub normal : IsNormal kept
  pub ahead : (x j : ℕ) → has kept x ≡ true → i ≤ j → j < length c → IsBefore x (get_or c j 0)
  pub within : (x : ℕ) → has kept x ≡ true → has c x ≡ true

pub probing_none : (s : List (Option Stored)) (id : ℕ) (c : List ℕ) (w : Watching) (t : Trace) → IsNormal c → Probes s id [] w t → IsSettled w.attached s t.steps → Probing s id c 0 [] w w t t
probing_none s id c w t nc h settled = record {
  clause = nc;
  over = over_none t.steps;
  lists = refl;
  normal = normal_empty;
  ahead = λ x j a. absurd (false≢true a);
  within = λ x a. absurd (false≢true a);
  probes = h;
  same = refl;
  declared = refl;
  settled = λ z. settled;
  few = omega arith;
  still = λ lt. absurd (omega arith);
  passed = λ j lt. absurd (omega arith);
  goes_on = λ new x. x;
  calm = λ z. (refl, λ front back l a b lt. absurd (omega arith));
}

is_open : (s : List (Option Stored)) (id : ℕ) (c : List ℕ) (i : ℕ) (kept : List ℕ) (w0 w : Watching) (t0 t : Trace) → Probing s id c i kept w0 w t0 t → IsOpen s id c kept
is_open s id c i kept w0 w t0 t h lt = let x = h.still lt in (x.0, x.1)

stops_any : (s : List (Option Stored)) (id : ℕ) (c assumed rest new : List ℕ) → Stops s id c assumed new → Vivifies s id c assumed rest new
stops_any s id c assumed [] new x = inl x
stops_any s id c assumed (l ∷ rest) new x = inl x

-- a literal that is false already is left out
pub probing_skip : (s : List (Option Stored)) (id : ℕ) (c : List ℕ) (i lit : ℕ) (kept : List ℕ) (w0 w : Watching) (t0 t : Trace) → i < length c → lit ≡ get_or c i lit → 0 < length kept → true_on t.steps (neg lit) ≡ true → Probing s id c i kept w0 w t0 t → Probing s id c (i + 1) kept w0 w t0 t
probing_skip s id c i lit kept w0 w t0 t in' read some off h =
    let at0 : get_or c i 0 ≡ lit = sym (read ∙ get_or_default c i lit 0 in') in
    let d : drop i c ≡ lit ∷ drop (i + 1) c = drop_more c i 0 in' ∙ ap (λ (z : ℕ). z ∷ drop (i + 1) c) at0 in
    let few = h.few in
    record {
      probes = h.probes;
      over = h.over;
      lists = h.lists;
      same = h.same;
      declared = h.declared;
      settled = h.settled;
      few = omega arith;
      still = h.still;
      passed = λ j lt. elim (cases_lt j i) [
        | inl less ↦ h.passed j less
        | inr ge ↦ (let e : get_or c j 0 ≡ lit = ap (λ (z : ℕ). get_or c z 0) (let u : j ≡ i = omega arith in u) ∙ at0 in subst (λ (z : ℕ). true_on t.steps (neg z) ≡ true) (sym e) off)
      ];
      goes_on = λ new x. h.goes_on new (subst (λ (z : List ℕ). Vivifies s id c kept z new) (sym d) (inr (is_open s id c i kept w0 w t0 t h, inl (some, forced_on s id (negs kept) t.steps (neg lit) h.probes.forced off, x))));
      calm = λ e. absurd (omega arith);
      clause = h.clause;
      normal = h.normal;
      ahead = λ x j a le lt. h.ahead x j a (omega arith) lt;
      within = h.within;
    }

-- one that is not is assumed
next_goes : (s : List (Option Stored)) (id : ℕ) (c : List ℕ) (i lit : ℕ) (kept : List ℕ) (w0 w : Watching) (t0 t : Trace) → i < length c → lit ≡ get_or c i lit → (0 < length kept → true_on t.steps (neg lit) ≡ true → ⊥) → Probing s id c i kept w0 w t0 t
    → (new : List ℕ) → Vivifies s id c (kept ++ lit ∷ []) (drop (i + 1) c) new → Vivifies s id c [] c new
next_goes s id c i lit kept w0 w t0 t in' read free h new x =
    let at0 : get_or c i 0 ≡ lit = sym (read ∙ get_or_default c i lit 0 in') in
    let d : drop i c ≡ lit ∷ drop (i + 1) c = drop_more c i 0 in' ∙ ap (λ (z : ℕ). z ∷ drop (i + 1) c) at0 in
    h.goes_on new (subst (λ (z : List ℕ). Vivifies s id c kept z new) (sym d) (inr (is_open s id c i kept w0 w t0 t h, inr ((λ lt f. free lt ((h.still lt).2 (neg lit) f)), x))))

-- and the clause is calm where it is cut here
next_calm : (s : List (Option Stored)) (id : ℕ) (c : List ℕ) (i lit : ℕ) (kept : List ℕ) (w0 w : Watching) (t0 t : Trace) → i < length c → lit ≡ get_or c i lit → (0 < length kept → true_on t.steps (neg lit) ≡ true → ⊥) → Probing s id c i kept w0 w t0 t → length kept ≡ i → (kept ++ lit ∷ [] ≡ take (i + 1) c) × CalmBelow s id c (i + 1)
next_calm s id c i lit kept w0 w t0 t in' read free h e =
    let k = h.calm e in
    let at0 : get_or c i 0 ≡ lit = sym (read ∙ get_or_default c i lit 0 in') in (
      ap (λ (z : List ℕ). z ++ lit ∷ []) k.0 ∙ ap (λ (z : ℕ). take i c ++ z ∷ []) (sym at0) ∙ sym (take_more c i 0 in'),
      λ front back l a b lt.
          elim (cases_lt (length front) i) [
            | inl less ↦ k.1 front back l a b less
            | inr ge ↦
                (let len : length front ≡ i = omega arith in
                let f : kept ≡ front = k.0 ∙ ap (take i) a ∙ take_at front (l ∷ back) i len in
                let is : l ≡ lit = sym (get_or_at front l back 0 i len) ∙ ap (λ (z : List ℕ). get_or z i 0) (sym a) ∙ at0 in
                let some : 0 < length kept = omega arith in
                let st = h.still some in
                subst (λ (z : List ℕ). IsCalm s id c z l back) f (record {
                  stands = st.0;
                  free = λ x. free some (subst (λ (z : ℕ). true_on t.steps (neg z) ≡ true) is (st.2 (neg l) x));
                  open_yet = λ p m q x. st.1 m q x;
                }))
          ],
    )

calm_all : (s : List (Option Stored)) (id : ℕ) (c : List ℕ) (i : ℕ) → length c ≤ i → CalmBelow s id c i → Calm s id c
calm_all s id c i le h front back l a b = h front back l a b (let n = ap length a in let m = length-append front (l ∷ back) in omega arith)

assumed_on : (s : List (Option Stored)) (id : ℕ) (kept : List ℕ) (lit : ℕ) (w : Watching) (t : Trace) → Probes s id (negs (kept ++ lit ∷ [])) w t → true_on t.steps (neg lit) ≡ true
assumed_on s id kept lit w t h = h.given_true (neg lit) (subst (λ (z : List ℕ). has z (neg lit) ≡ true) (sym (negs_more kept lit)) (has-append_right (negs kept) (neg lit ∷ []) (neg lit) (or_left (eqb (neg lit) (neg lit)) false (eq-eqb (neg lit) (neg lit) refl))))

-- the literals that were assumed stand in order, before those that are left
next_normal : (s : List (Option Stored)) (id : ℕ) (c : List ℕ) (i lit : ℕ) (kept : List ℕ) (w0 w : Watching) (t0 t : Trace) → i < length c → lit ≡ get_or c i lit → Probing s id c i kept w0 w t0 t → IsNormal (kept ++ lit ∷ [])
next_normal s id c i lit kept w0 w t0 t in' read h =
    let at0 : get_or c i 0 ≡ lit = sym (read ∙ get_or_default c i lit 0 in') in
    normal_push kept lit h.normal (λ x a. subst (λ (z : ℕ). IsBefore x z) at0 (h.ahead x i a (omega arith) in'))

next_ahead : (s : List (Option Stored)) (id : ℕ) (c : List ℕ) (i lit : ℕ) (kept : List ℕ) (w0 w : Watching) (t0 t : Trace) → i < length c → lit ≡ get_or c i lit → Probing s id c i kept w0 w t0 t
    → (x j : ℕ) → has (kept ++ lit ∷ []) x ≡ true → i < j → j < length c → IsBefore x (get_or c j 0)
next_ahead s id c i lit kept w0 w t0 t in' read h x j a le lt =
    let at0 : get_or c i 0 ≡ lit = sym (read ∙ get_or_default c i lit 0 in') in
    elim (has-append_cases kept (lit ∷ []) x a) [
      | inl b ↦ h.ahead x j b (omega arith) lt
      | inr b ↦
          elim (or_cases (eqb lit x) false b) [
            | inl e ↦ subst (λ (z : ℕ). IsBefore z (get_or c j 0)) (at0 ∙ eqb-true lit x e) (before_at c i j h.clause le lt)
            | inr f ↦ absurd (false≢true f)
          ]
    ]

next_within : (s : List (Option Stored)) (id : ℕ) (c : List ℕ) (i lit : ℕ) (kept : List ℕ) (w0 w : Watching) (t0 t : Trace) → i < length c → lit ≡ get_or c i lit → Probing s id c i kept w0 w t0 t → (x : ℕ) → has (kept ++ lit ∷ []) x ≡ true → has c x ≡ true
next_within s id c i lit kept w0 w t0 t in' read h x a =
    elim (has-append_cases kept (lit ∷ []) x a) [
      | inl b ↦ h.within x b
      | inr b ↦
          elim (or_cases (eqb lit x) false b) [
            | inl e ↦ subst (λ (z : ℕ). has c z ≡ true) (eqb-true lit x e) (has_at c i lit in' read)
            | inr f ↦ absurd (false≢true f)
          ]
    ]

pub probing_assume : (s : List (Option Stored)) (id : ℕ) (c : List ℕ) (i lit : ℕ) (kept : List ℕ) (w0 w w' : Watching) (t0 t t' : Trace) → i < length c → lit ≡ get_or c i lit → (0 < length kept → true_on t.steps (neg lit) ≡ true → ⊥) → Probing s id c i kept w0 w t0 t
    → w'.attached ≡ w.attached → t'.declared ≡ t.declared → Probes s id (negs (kept ++ lit ∷ [])) w' t' → ((l : ℕ) → true_on t.steps l ≡ true → true_on t'.steps l ≡ true) → Still s id c (negs (kept ++ lit ∷ [])) t'.steps → ((root : List Step) → IsOver root t.steps → IsOver root t'.steps) → w'.declared ≡ w.declared
    → Probing s id c (i + 1) (kept ++ lit ∷ []) w0 w' t0 t'
probing_assume s id c i lit kept w0 w w' t0 t t' in' read free h ew ed probes longer still over lists =
    let at0 : get_or c i 0 ≡ lit = sym (read ∙ get_or_default c i lit 0 in') in
    let lk = length_push kept lit in
    let few = h.few in
    record {
      probes = probes;
      over = over t0.steps h.over;
      lists = lists ∙ h.lists;
      same = ew ∙ h.same;
      declared = ed ∙ h.declared;
      settled = λ z. absurd (omega arith);
      few = omega arith;
      still = λ lt. still;
      passed = λ j lt. elim (cases_lt j i) [
        | inl less ↦ longer (neg (get_or c j 0)) (h.passed j less)
        | inr ge ↦ (let e : get_or c j 0 ≡ lit = ap (λ (z : ℕ). get_or c z 0) (let u : j ≡ i = omega arith in u) ∙ at0 in subst (λ (z : ℕ). true_on t'.steps (neg z) ≡ true) (sym e) (assumed_on s id kept lit w' t' probes))
      ];
      goes_on = next_goes s id c i lit kept w0 w t0 t in' read free h;
      calm = λ e. next_calm s id c i lit kept w0 w t0 t in' read free h (omega arith);
      clause = h.clause;
      normal = next_normal s id c i lit kept w0 w t0 t in' read h;
      ahead = λ x j a le lt. next_ahead s id c i lit kept w0 w t0 t in' read h x j a (omega arith) lt;
      within = next_within s id c i lit kept w0 w t0 t in' read h;
    }

-- a literal that is neither true nor false
pub free_at : (s : List (Option Stored)) (id : ℕ) (c : List ℕ) (i lit : ℕ) (kept : List ℕ) (w0 w : Watching) (t0 t : Trace) → i < length c → lit ≡ get_or c i lit → (0 < length kept → true_on t.steps (neg lit) ≡ true → ⊥) → Probing s id c i kept w0 w t0 t → 0 < length kept → value_on t.steps lit ≡ None
free_at s id c i lit kept w0 w t0 t in' read free h some =
    let off : true_on t.steps (neg lit) ≡ false = false_from_ne_true (true_on t.steps (neg lit)) (free some) in
    let on : true_on t.steps lit ≡ false = false_from_ne_true (true_on t.steps lit) (λ y. (h.still some).1 lit (has_at c i lit in' read) (forced_on s id (negs kept) t.steps lit h.probes.forced y)) in
    rw (off, on) refl

-- the ends
pub probed_false : (s : List (Option Stored)) (id : ℕ) (c : List ℕ) (i lit : ℕ) (kept : List ℕ) (w0 w : Watching) (t0 t : Trace) → i < length c → lit ≡ get_or c i lit → (0 < length kept → true_on t.steps (neg lit) ≡ true → ⊥) → Probing s id c i kept w0 w t0 t → Fails s id (negs (kept ++ lit ∷ [])) → Probed s id c (kept ++ lit ∷ [])
probed_false s id c i lit kept w0 w t0 t in' read free h fails =
    let lk = length_push kept lit in
    let few = h.few in
    record {
      made = next_goes s id c i lit kept w0 w t0 t in' read free h (kept ++ lit ∷ []) (stops_any s id c (kept ++ lit ∷ []) (drop (i + 1) c) (kept ++ lit ∷ []) (omega arith, inl (fails, refl)));
      short = omega arith;
      calm = λ le. calm_all s id c (i + 1) (omega arith) (next_calm s id c i lit kept w0 w t0 t in' read free h (omega arith)).1;
      normal = next_normal s id c i lit kept w0 w t0 t in' read h;
      within = next_within s id c i lit kept w0 w t0 t in' read h;
    }

pub probed_true : (s : List (Option Stored)) (id : ℕ) (c : List ℕ) (i lit m top : ℕ) (kept : List ℕ) (w0 w w' : Watching) (t0 t t' : Trace) → i < length c → lit ≡ get_or c i lit → (0 < length kept → true_on t.steps (neg lit) ≡ true → ⊥) → Probing s id c i kept w0 w t0 t
    → Probes s id (negs (kept ++ lit ∷ [])) w' t' → ((l : ℕ) → true_on t.steps l ≡ true → true_on t'.steps l ≡ true) → IsTrail t'.steps top
    → (Fails s id (negs (kept ++ lit ∷ [])) → ⊥) × (has c m ≡ true) × (true_on t'.steps m ≡ true) × ((l : ℕ) → Forced s id (negs (kept ++ lit ∷ [])) l → true_on t'.steps l ≡ true)
    → Probed s id c ((kept ++ lit ∷ []) ++ m ∷ [])
probed_true s id c i lit m top kept w0 w w' t0 t t' in' read free h probes longer shape look =
    let lk = length_push kept lit in
    let lm = length_push (kept ++ lit ∷ []) m in
    let few = h.few in
    let at0 : get_or c i 0 ≡ lit = sym (read ∙ get_or_default c i lit 0 in') in
    let j = has_place c m 0 look.1 in
    let later : i < j.0 = elim (cases_lt i j.0) [
      | inl lt ↦ lt
      | inr ge ↦
          absurd (not_both t'.steps top m shape look.2 (subst (λ (z : ℕ). true_on t'.steps (neg z) ≡ true) j.2
          (elim (cases_lt j.0 i) [
            | inl less ↦ longer (neg (get_or c j.0 0)) (h.passed j.0 less)
            | inr same ↦ (let e : get_or c j.0 0 ≡ lit = ap (λ (z : ℕ). get_or c z 0) (let u : j.0 ≡ i = omega arith in u) ∙ at0 in subst (λ (z : ℕ). true_on t'.steps (neg z) ≡ true) (sym e) (assumed_on s id kept lit w' t' probes))
          ])))
    ] in
    let inside = j.1 in
    record {
      made = next_goes s id c i lit kept w0 w t0 t in' read free h ((kept ++ lit ∷ []) ++ m ∷ [])
          (stops_any s id c (kept ++ lit ∷ []) (drop (i + 1) c) ((kept ++ lit ∷ []) ++ m ∷ []) (omega arith, inr (look.0, (m, look.1, forced_on s id (negs (kept ++ lit ∷ [])) t'.steps m probes.forced look.2, refl))));
      short = omega arith;
      calm = λ le.
          let k = next_calm s id c i lit kept w0 w t0 t in' read free h (omega arith) in
          λ front back l a b.
          let n = ap length a in
          let p = length-append front (l ∷ back) in
          elim (cases_lt (length front) (i + 1)) [
            | inl less ↦ k.1 front back l a b less
            | inr ge ↦
                (let len : length front ≡ i + 1 = omega arith in
                let f : kept ++ lit ∷ [] ≡ front = k.0 ∙ ap (take (i + 1)) a ∙ take_at front (l ∷ back) (i + 1) len in
                let is : l ≡ m = sym (get_or_at front l back 0 (i + 1) len) ∙ ap (λ (z : List ℕ). get_or z (i + 1) 0) (sym a) ∙ ap (λ (z : ℕ). get_or c z 0) (let u : i + 1 ≡ j.0 = omega arith in u) ∙ j.2 in
                subst (λ (z : List ℕ). IsCalm s id c z l back) f (record {
                  stands = look.0;
                  free = λ x. not_both t'.steps top m shape look.2 (subst (λ (z : ℕ). true_on t'.steps (neg z) ≡ true) is (look.3 (neg l) x));
                  open_yet = λ lt. absurd (omega arith);
                }))
          ];
      normal = normal_push (kept ++ lit ∷ []) m (next_normal s id c i lit kept w0 w t0 t in' read h)
          (λ x a. subst (λ (z : ℕ). IsBefore x z) j.2 (next_ahead s id c i lit kept w0 w t0 t in' read h x j.0 a later inside));
      within = λ x a.
          elim (has-append_cases (kept ++ lit ∷ []) (m ∷ []) x a) [
            | inl b ↦ next_within s id c i lit kept w0 w t0 t in' read h x b
            | inr b ↦ elim (or_cases (eqb m x) false b) [ inl e ↦ subst (λ (z : ℕ). has c z ≡ true) (eqb-true m x e) look.1 | inr f ↦ absurd (false≢true f) ]
          ];
    }

pub probed_end : (s : List (Option Stored)) (id : ℕ) (c : List ℕ) (i : ℕ) (kept : List ℕ) (w0 w : Watching) (t0 t : Trace) → i ≡ length c → Probing s id c i kept w0 w t0 t → Probed s id c kept
probed_end s id c i kept w0 w t0 t e h =
    let few = h.few in
    let over : drop i c ≡ [] = drop_all i c (omega arith) in
    record {
      made = h.goes_on kept (subst (λ (z : List ℕ). Vivifies s id c kept z kept) (sym over) (inr (is_open s id c i kept w0 w t0 t h, refl)));
      short = omega arith;
      calm = λ le. calm_all s id c i (omega arith) (h.calm (omega arith)).1;
      normal = h.normal;
      within = h.within;
    }
