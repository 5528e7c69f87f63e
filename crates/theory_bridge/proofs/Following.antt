-- The seen trail goes on following the trail as literals and levels are told.
use Rattle.std.proofs.Common.{◌≡◌, ◌≢◌, ℕ, suc, ◌+◌, ◌<◌, ◌≤◌, Bool, true, false, List, [], ◌∷◌, ◌++◌, length, ◌⊎◌, inl, inr, refl, sym, ap, ◌∙◌, subst, arith, Some, None}
use Rattle.std.proofs.lemmas.Bool.{cases_lt, cases_eq, eq-eqb, ne_eqb}
use Rattle.std.proofs.lemmas.List.{get_or_append_left, get_or_push, length-append}
use Rattle.sat_terms.specs.Literal.{neg, var_of}
use Rattle.trail_state.specs.declared.trail.Step.{Step}
use Rattle.trail_state.specs.Trail.{Trace, step, true_on, place_on, level_on, IsTrail, IsApart}
use Rattle.trail_state.specs.Table.{is_decision}
use Rattle.trail_state.proofs.Levels.{below_top}
use Rattle.trail_state.proofs.Values.{not_both}
use Rattle.trail_state.proofs.Places.{place_apart, place_of_true, true_at_place, level_at}
use Rattle.user_propagator.specs.declared.seen.Seen.{Seen}
use Rattle.user_propagator.specs.Board.{Board, entry, no_entry, seen_var, trail_value, IsSeenTrail, with_var}
use Rattle.user_propagator.specs.Meaning.{put_on}
use Rattle.user_propagator.proofs.Seeing.{value_is, value_in, place_some, entry_some}
use Rattle.theory_bridge.specs.Following.{Mirrors, IsTold, is_watched, Follows, AreTold, AreFlagged}

-- a seen trail with one entry more
size_push : (seen : List Seen) (e : Seen) → length (seen ++ e ∷ []) ≡ length seen + 1
size_push seen e = length-append seen (e ∷ [])

entry_old : (seen : List Seen) (e : Seen) (k : ℕ) → k < length seen → entry (seen ++ e ∷ []) k ≡ entry seen k
entry_old seen e k in' = get_or_append_left seen (e ∷ []) no_entry k in'

entry_new : (seen : List Seen) (e : Seen) (k : ℕ) → k ≡ length seen → entry (seen ++ e ∷ []) k ≡ e
entry_new seen e k is = get_or_push seen e no_entry k (sym is)

old_or_last : (seen : List Seen) (e : Seen) (k : ℕ) → k < length (seen ++ e ∷ []) → (k < length seen) ⊎ (k ≡ length seen)
old_or_last seen e k in' =
    let h = size_push seen e in
    elim (cases_lt k (length seen)) [ inl lt ↦ inl lt | inr ge ↦ inr (omega arith) ]

-- a value stays as more is told, and the literal that is told is true
pub value_kept : (seen : List Seen) (e : Seen) (l : ℕ) (b : Bool) → trail_value seen l ≡ Some b → trail_value (seen ++ e ∷ []) l ≡ Some b
value_kept [] e l b h = absurd (let q : None ≡ Some b = h in cc)
value_kept (x ∷ xs) e l b h =
    elim (cases_eq x.lit l) [
      | inl y ↦ rw (eq-eqb x.lit l y) (rw (eq-eqb x.lit l y) at h)
      | inr n ↦ elim (cases_eq x.lit (neg l)) [
        | inl y ↦ rw (ne_eqb x.lit l n, eq-eqb x.lit (neg l) y) (rw (ne_eqb x.lit l n, eq-eqb x.lit (neg l) y) at h)
        | inr m ↦ rw (ne_eqb x.lit l n, ne_eqb x.lit (neg l) m) (value_kept xs e l b (rw (ne_eqb x.lit l n, ne_eqb x.lit (neg l) m) at h))
      ]
    ]

pub value_told : (seen : List Seen) (e : Seen) (l : ℕ) → e.lit ≡ l → trail_value seen l ≡ None → IsTold (seen ++ e ∷ []) l
value_told [] e l is h = rw (eq-eqb e.lit l is) refl
value_told (x ∷ xs) e l is h =
    elim (cases_eq x.lit l) [
      | inl y ↦ absurd (let q : Some true ≡ None = rw (eq-eqb x.lit l y) at h in cc)
      | inr n ↦ elim (cases_eq x.lit (neg l)) [
        | inl y ↦ absurd (let q : Some false ≡ None = rw (ne_eqb x.lit l n, eq-eqb x.lit (neg l) y) at h in cc)
        | inr m ↦ rw (ne_eqb x.lit l n, ne_eqb x.lit (neg l) m) (value_told xs e l is (rw (ne_eqb x.lit l n, ne_eqb x.lit (neg l) m) at h))
      ]
    ]

-- what was told is the last literal, or was told before it
pub told_before : (seen : List Seen) (e : Seen) (l : ℕ) → IsTold (seen ++ e ∷ []) l → IsTold seen l ⊎ (e.lit ≡ l)
told_before [] e l h =
    elim (cases_eq e.lit l) [
      | inl y ↦ inr y
      | inr n ↦ elim (cases_eq e.lit (neg l)) [
        | inl y ↦ absurd (let q : Some false ≡ Some true = rw (ne_eqb e.lit l n, eq-eqb e.lit (neg l) y) at h in cc)
        | inr m ↦ absurd (let q : None ≡ Some true = rw (ne_eqb e.lit l n, ne_eqb e.lit (neg l) m) at h in cc)
      ]
    ]
told_before (x ∷ xs) e l h =
    elim (cases_eq x.lit l) [
      | inl y ↦ inl (rw (eq-eqb x.lit l y) refl)
      | inr n ↦ elim (cases_eq x.lit (neg l)) [
        | inl y ↦ absurd (let q : Some false ≡ Some true = rw (ne_eqb x.lit l n, eq-eqb x.lit (neg l) y) at h in cc)
        | inr m ↦ rw (ne_eqb x.lit l n, ne_eqb x.lit (neg l) m) (told_before xs e l (rw (ne_eqb x.lit l n, ne_eqb x.lit (neg l) m) at h))
      ]
    ]

-- each entry's literal is true on the seen trail
pub told_entry : (observed : List ℕ) (seen : List Seen) (level k : ℕ) → IsSeenTrail observed seen level → k < length seen → IsTold seen (entry seen k).lit
told_entry observed seen level k shape in' =
    let e = entry seen k in
    let first : (j : ℕ) → j < k → seen_var (entry seen j) ≢ seen_var e = λ j lt same. (let eq = shape.apart j k (omega arith) in' same in omega arith) in
    let found = (entry_some seen (seen_var e) k (place_some seen k (seen_var e) in' refl first)).1 in
    value_is seen e.lit ∙ ap (value_in e.lit) found ∙ ap Some (eq-eqb e.lit e.lit refl)

-- a literal that is false on the seen trail has its opposite there
pub opposite_there : (seen : List Seen) (l : ℕ) → trail_value seen l ≡ Some false → (k : ℕ) × (k < length seen) × ((entry seen k).lit ≡ neg l)
opposite_there [] l h = absurd (let q : None ≡ Some false = h in cc)
opposite_there (x ∷ xs) l h =
    elim (cases_eq x.lit l) [
      | inl y ↦ absurd (let q : Some true ≡ Some false = rw (eq-eqb x.lit l y) at h in cc)
      | inr n ↦ elim (cases_eq x.lit (neg l)) [
        | inl y ↦ (0, omega arith, y)
        | inr m ↦
            let r = opposite_there xs l (rw (ne_eqb x.lit l n, ne_eqb x.lit (neg l) m) at h) in
            let lt = r.1 in
            (suc r.0, omega arith, r.2)
      ]
    ]

-- a literal of the trail that has a value on the seen trail is true there
pub told_value : (seen : List Seen) (t : List Step) (i : ℕ) → Mirrors seen t → IsApart t → i < length t → (b : Bool) → trail_value seen (step t i).lit ≡ Some b → IsTold seen (step t i).lit
told_value seen t i m apart in' true h = h
told_value seen t i m apart in' false h =
    let r = opposite_there seen (step t i).lit h in
    absurd (not_both t (step t i).lit apart (true_at_place t i (step t i).lit in' refl) (subst (λ (l : ℕ). true_on t l ≡ true) r.2 (m.lits r.0 r.1)))

-- one literal is told: it stands on the trail at its level, and above the root behind all that were
-- told above the root
pub mirrors_put : (seen : List Seen) (t : List Step) (e : Seen) → Mirrors seen t → true_on t e.lit ≡ true → level_on t (var_of e.lit) ≡ Some e.level
    → ((j : ℕ) → j < length seen → 0 < (entry seen j).level → 0 < e.level → (p q : ℕ) → place_on t (var_of (entry seen j).lit) ≡ Some p → place_on t (var_of e.lit) ≡ Some q → p < q)
    → Mirrors (seen ++ e ∷ []) t
mirrors_put seen t e m on level last = record {
  lits = λ k in'. elim (old_or_last seen e k in') [
    | inl old ↦ rw (entry_old seen e k old) (m.lits k old)
    | inr new ↦ rw (entry_new seen e k new) on
  ];
  levels = λ k in'. elim (old_or_last seen e k in') [
    | inl old ↦ rw (entry_old seen e k old) (m.levels k old)
    | inr new ↦ rw (entry_new seen e k new) level
  ];
  order = λ j k lt in' hj hk p q. elim (old_or_last seen e k in') [
    | inl old ↦ (
        let a = entry_old seen e j (omega arith) in
        let b = entry_old seen e k old in
        λ x y. m.order j k lt old (rw a at hj) (rw b at hk) p q (rw a at x) (rw b at y))
    | inr new ↦ (
        let a = entry_old seen e j (omega arith) in
        let b = entry_new seen e k new in
        λ x y. last j (omega arith) (rw a at hj) (rw b at hk) p q (rw a at x) (rw b at y))
  ];
}

some_same : (p q : ℕ) → Some p ≡ Some q → p ≡ q
some_same p q h = cc

-- the literal at a place is told, all observed ones before it were
module _ (b : Board) (t : Trace) (i : ℕ) (d : Bool)
    (shape : IsTrail t.steps t.level) (sound : IsSeenTrail b.observed b.seen b.level) (f : Follows b t)
    (in' : i < length t.steps) (at : (step t.steps i).level ≡ b.level) (told : AreTold b t.steps i) where
  put_here : Board
  put_here = put_on b (step t.steps i).lit d

  module _ (watched : is_watched b (step t.steps i) ≡ true) (free : trail_value b.seen (step t.steps i).lit ≡ None) where
    not_told : IsTold b.seen (step t.steps i).lit → ⊥
    not_told h = let q : None ≡ Some true = sym free ∙ h in cc

    -- what was told above the root stands before it
    behind : (j p : ℕ) → j < length b.seen → 0 < (step t.steps i).level → p < length t.steps → (step t.steps p).lit ≡ (entry b.seen j).lit → p < i
    behind j p lt above in'' is =
        let there : IsTold b.seen (step t.steps p).lit = subst (λ (l : ℕ). IsTold b.seen l) (sym is) (told_entry b.observed b.seen b.level j sound lt) in
        elim (cases_lt p i) [
          | inl before ↦ before
          | inr ge ↦ elim (cases_eq i p) [
            | inl same ↦ absurd (not_told (subst (λ (q : ℕ). IsTold b.seen (step t.steps q).lit) (sym same) there))
            | inr other ↦ absurd (not_told (f.unbroken i p (omega arith) in'' above watched there))
          ]
        ]

    pub follows_put : Follows (put_on b (step t.steps i).lit d) t
    follows_put =
        let e : Seen = record { lit = (step t.steps i).lit; level = b.level; decision = d } in
        let place = place_apart t.steps (var_of e.lit) i shape.apart in' refl in
        record {
          mirrors = mirrors_put b.seen t.steps e f.mirrors (true_at_place t.steps i e.lit in' refl)
              (level_at t.steps (var_of e.lit) i place ∙ ap Some at)
              (λ j lt hj he p q hp hq.
              let r = place_of_true t.steps (entry b.seen j).lit (f.mirrors.lits j lt) in
              let mine = place_apart t.steps (var_of (entry b.seen j).lit) r.0 shape.apart r.1 (ap var_of r.2) in
              let same : r.0 ≡ p = some_same r.0 p (sym mine ∙ hp) in
              let here : i ≡ q = some_same i q (sym place ∙ hq) in
              let less = behind j r.0 lt (omega (arith, at, he)) r.1 r.2 in
              omega arith);
          unbroken = λ a c lt in'' above w h. elim (told_before b.seen e (step t.steps c).lit h) [
            | inl old ↦ value_kept b.seen e (step t.steps a).lit true (f.unbroken a c lt in'' above w old)
            | inr same ↦ (let here : i ≡ c = shape.apart i c in' in'' (ap var_of same) in value_kept b.seen e (step t.steps a).lit true (told.each a (omega arith) w))
          ];
          level = f.level;
          below = λ a in'' low w. value_kept b.seen e (step t.steps a).lit true (f.below a in'' low w);
        }

    pub told_put : AreTold (put_on b (step t.steps i).lit d) t.steps (i + 1)
    told_put =
        let e : Seen = record { lit = (step t.steps i).lit; level = b.level; decision = d } in
        record {
          each = λ j lt w. elim (cases_lt j i) [
            | inl before ↦ value_kept b.seen e (step t.steps j).lit true (told.each j before w)
            | inr ge ↦ (let same : j ≡ i = omega arith in value_told b.seen e (step t.steps j).lit (ap (λ (q : ℕ). (step t.steps q).lit) (sym same)) (subst (λ (q : ℕ). trail_value b.seen (step t.steps q).lit ≡ None) (sym same) free))
          ];
        }

  -- the literal at a place need not be told
  pub told_skip : (is_watched b (step t.steps i) ≡ true → IsTold b.seen (step t.steps i).lit) → AreTold b t.steps (i + 1)
  told_skip here = record {
    each = λ j lt w. elim (cases_lt j i) [
      | inl before ↦ told.each j before w
      | inr ge ↦ (let same : j ≡ i = omega arith in subst (λ (q : ℕ). IsTold b.seen (step t.steps q).lit) (sym same) (here (subst (λ (q : ℕ). is_watched b (step t.steps q) ≡ true) same w)))
    ];
  }

-- levels are told
pub follows_level : (b : Board) (t : Trace) (level : ℕ) → Follows b t → level ≤ t.level
    → ((j : ℕ) → j < length t.steps → (step t.steps j).level < level → is_watched b (step t.steps j) ≡ true → IsTold b.seen (step t.steps j).lit)
    → Follows (record b { level = level }) t
follows_level b t level f le below = record { mirrors = f.mirrors; unbroken = f.unbroken; level = le; below = below }

-- a variable is observed at the root
pub follows_observed : (b : Board) (t : Trace) (v : ℕ) → IsTrail t.steps t.level → t.level ≡ 0 → Follows b t → Follows (record b { observed = with_var b.observed v }) t
follows_observed b t v shape root f = record {
  mirrors = f.mirrors;
  unbroken = λ i j lt in' above w h. (let top = below_top 0 t.steps t.level shape.levels i (omega arith) in absurd (omega arith));
  level = f.level;
  below = λ i in' low w. (let le = f.level in absurd (omega arith));
}

-- the flags of what is told
pub flagged_none : (t : List Step) (seen : List Seen) → AreFlagged t (length seen) seen
flagged_none t seen = record { each = λ k ge lt i in' is. absurd (omega arith) }

pub flagged_put : (t : List Step) (from : ℕ) (seen : List Seen) (e : Seen) (i : ℕ) → IsApart t → i < length t → e.lit ≡ (step t i).lit → e.decision ≡ is_decision (step t i).reason → AreFlagged t from seen → AreFlagged t from (seen ++ e ∷ [])
flagged_put t from seen e i apart in' is flag h = record {
  each = λ k ge lt j in'' same. elim (old_or_last seen e k lt) [
    | inl old ↦ (let q = entry_old seen e k old in ap (λ (x : Seen). x.decision) q ∙ h.each k ge old j in'' (same ∙ ap (λ (x : Seen). x.lit) q))
    | inr new ↦ (
        let q = entry_new seen e k new in
        let here : j ≡ i = apart j i in'' in' (ap var_of (same ∙ ap (λ (x : Seen). x.lit) q ∙ is)) in
        ap (λ (x : Seen). x.decision) q ∙ flag ∙ ap (λ (p : ℕ). is_decision (step t p).reason) (sym here))
  ];
}

-- where nothing was told the seen trail follows every trail
pub follows_fresh : (b : Board) (t : Trace) → b.seen ≡ [] → b.level ≡ 0 → Follows b t
follows_fresh b t none root = record {
  mirrors = subst (λ (xs : List Seen). Mirrors xs t.steps) (sym none) record { lits = λ k lt. absurd (omega arith); levels = λ k lt. absurd (omega arith); order = λ j k lt in'. absurd (omega arith) };
  unbroken = λ i j lt in' above w h. absurd (let q : None ≡ Some true = subst (λ (xs : List Seen). IsTold xs (step t.steps j).lit) none h in cc);
  level = omega arith;
  below = λ i in' low w. absurd (omega arith);
}
