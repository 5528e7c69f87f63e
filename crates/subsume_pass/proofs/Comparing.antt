-- What holds while two clauses are compared.
use Rattle.std.proofs.Common.{◌≡◌, ◌≢◌, ℕ, ◌+◌, ◌<◌, ◌≤◌, true, false, List, length, get_or, Option, Some, None, is_some, inl, inr, refl, sym, ap, ◌∙◌, subst, arith}
use Rattle.std.proofs.lemmas.Bool.{false≢true, cases_eq, cases_lt, false_from_ne_true}
use Rattle.std.proofs.lemmas.List.{get_or_default}
use Rattle.sat_terms.specs.Literal.{has, neg, var_of}
use Rattle.sat_terms.specs.Normal.{IsNormal}
use Rattle.sat_terms.proofs.Literals.{neg-neg, var_of-neg}
use Rattle.firm_terms.specs.Subsuming.{IsWithin, Resolves, IsFree}
use Rattle.sat_terms.proofs.Members.{has_item, has_place}
use Rattle.subsume_pass.proofs.Clauses.{vars_rise, not_both}

-- a literal whose variable stands not in d
pub free_missing : (c d : List ℕ) (l : ℕ) → has c l ≡ true → has d l ≡ false → has d (neg l) ≡ false → IsFree c d
free_missing c d l h n m = record {
  outside = λ w. false≢true (sym n ∙ w l h);
  uncut = λ x r. elim (cases_eq l (neg x)) [
    | inl e ↦ false≢true (sym m ∙ subst (λ (z : ℕ). has d z ≡ true) (sym (ap neg e ∙ neg-neg x)) r.here)
    | inr ne ↦ false≢true (sym n ∙ (r.rest l h ne).0)
  ];
}

-- two literals that stand not in d
pub free_two : (c d : List ℕ) (a b : ℕ) → a ≢ b → has c a ≡ true → has c b ≡ true → has d a ≡ false → has d b ≡ false → IsFree c d
free_two c d a b ne ha hb na nb = record {
  outside = λ w. false≢true (sym na ∙ w a ha);
  uncut = λ x r. elim (cases_eq a (neg x)) [
    | inl e ↦ false≢true (sym nb ∙ (r.rest b hb (λ z. ne (e ∙ sym z))).0)
    | inr n ↦ false≢true (sym na ∙ (r.rest a ha n).0)
  ];
}

-- places that were passed have lower variables than v
pub record Sought (d : List ℕ) (start at v : ℕ) : Type 0 where
  pub from : start ≤ at
  pub within : at ≤ length d
  pub passed : (k : ℕ) → start ≤ k → k < at → var_of (get_or d k 0) < v

pub sought_none : (d : List ℕ) (start v : ℕ) → start ≤ length d → Sought d start start v
sought_none d start v le = record { from = omega arith; within = le; passed = λ k a b. absurd (omega arith) }

pub sought_more : (d : List ℕ) (start at here v : ℕ) → Sought d start at v → at < length d → here ≡ var_of (get_or d at 0) → here < v → Sought d start (at + 1) v
sought_more d start at here v h in' is lt =
    let f = h.from in
    record {
      from = omega arith;
      within = omega arith;
      passed = λ k a b. elim (cases_lt k at) [ inl l ↦ h.passed k a l | inr ge ↦ (let e : at ≡ k = omega arith in subst (λ (z : ℕ). var_of (get_or d z 0) < v) e (let q : var_of (get_or d at 0) < v = omega arith in q)) ];
    }

-- the flip that was met before a place of c, if there was one, and what stands in d
abbrev pub Flips : List ℕ → List ℕ → ℕ → Option ℕ → Type 0
Flips c d i None = (m : ℕ) → m < i → has d (get_or c m 0) ≡ true
Flips c d i (Some p) = (q : ℕ) × (q < i) × (p < length d) × (get_or d p 0 ≡ neg (get_or c q 0)) × ((m : ℕ) → m < i → m ≢ q → has d (get_or c m 0) ≡ true)

pub record Comparing (c d : List ℕ) (i at : ℕ) (flipped : Option ℕ) : Type 0 where
  pub within : at ≤ length d
  pub passed : (k m : ℕ) → k < at → i ≤ m → m < length c → var_of (get_or d k 0) < var_of (get_or c m 0)
  pub flips : Flips c d i flipped

pub comparing_none : (c d : List ℕ) → Comparing c d 0 0 None
comparing_none c d = record { within = omega arith; passed = λ k m lt. absurd (omega arith); flips = λ m lt. absurd (omega arith) }

-- from the place that was sought: all before it have lower variables, for this literal and later ones
pub passed_more : (c d : List ℕ) (i from at lit : ℕ) (flipped : Option ℕ) → IsNormal c → i < length c → lit ≡ get_or c i lit → Comparing c d i from flipped → ((k : ℕ) → from ≤ k → k < at → var_of (get_or d k 0) < var_of lit)
    → (k m : ℕ) → k < at → i ≤ m → m < length c → var_of (get_or d k 0) < var_of (get_or c m 0)
passed_more c d i from at lit flipped n in' read h p k m lt le in'' =
    elim (cases_lt k from) [
      | inl less ↦ h.passed k m less le in''
      | inr ge ↦
          (let a = p k ge lt in
          let e : var_of lit ≡ var_of (get_or c i 0) = ap var_of (read ∙ get_or_default c i lit 0 in') in
          elim (cases_eq i m) [
            | inl z ↦ (let f : var_of (get_or c i 0) ≡ var_of (get_or c m 0) = ap (λ (x : ℕ). var_of (get_or c x 0)) z in omega arith)
            | inr ne ↦ (let b = vars_rise c i m n (omega arith) in'' in omega arith)
          ])
    ]

-- no literal of a variable stands in d
pub no_var : (d : List ℕ) (at lit x : ℕ) → IsNormal d → var_of x ≡ var_of lit → ((k : ℕ) → k < at → var_of (get_or d k 0) < var_of lit) → (at < length d → var_of lit ≤ var_of (get_or d at 0)) → (at < length d → get_or d at 0 ≢ x) → has d x ≡ false
no_var d at lit x n v below above ne =
    false_from_ne_true (has d x) (λ h.
    let p = has_place d x 0 h in
    let in' = p.1 in
    let e : var_of (get_or d p.0 0) ≡ var_of lit = ap var_of p.2 ∙ v in
    elim (cases_lt p.0 at) [
      | inl lt ↦ (let a = below p.0 lt in omega arith)
      | inr ge ↦
          elim (cases_eq p.0 at) [
            | inl z ↦ ne (let q : at < length d = omega arith in q) (ap (λ (y : ℕ). get_or d y 0) (sym z) ∙ p.2)
            | inr m ↦ (let a = above (omega arith) in let b = vars_rise d at p.0 n (omega arith) in' in omega arith)
          ]
    ])

-- the literal stands in d
same_flips : (c d : List ℕ) (i : ℕ) (flipped : Option ℕ) → has d (get_or c i 0) ≡ true → Flips c d i flipped → Flips c d (i + 1) flipped
same_flips c d i None h f = λ m lt. elim (cases_lt m i) [ inl l ↦ f m l | inr ge ↦ subst (λ (z : ℕ). has d (get_or c z 0) ≡ true) (let e : i ≡ m = omega arith in e) h ]
same_flips c d i (Some p) h f = (f.0, (let a = f.1 in omega arith), f.2, f.3, λ m lt ne. elim (cases_lt m i) [ inl l ↦ f.4 m l ne | inr ge ↦ subst (λ (z : ℕ). has d (get_or c z 0) ≡ true) (let e : i ≡ m = omega arith in e) h ])

pub comparing_same : (c d : List ℕ) (i from at lit : ℕ) (flipped : Option ℕ) → IsNormal c → i < length c → lit ≡ get_or c i lit → Comparing c d i from flipped → at ≤ length d → ((k : ℕ) → from ≤ k → k < at → var_of (get_or d k 0) < var_of lit)
    → at < length d → get_or d at 0 ≡ lit → Comparing c d (i + 1) at flipped
comparing_same c d i from at lit flipped n in' read h le p lt is = record {
  within = le;
  passed = λ k m a b e. passed_more c d i from at lit flipped n in' read h p k m a (omega arith) e;
  flips = same_flips c d i flipped (subst (λ (z : ℕ). has d z ≡ true) (is ∙ read ∙ get_or_default c i lit 0 in') (has_item d at 0 lt)) h.flips;
}

-- the first flip
pub comparing_flip : (c d : List ℕ) (i from at lit : ℕ) → IsNormal c → i < length c → lit ≡ get_or c i lit → Comparing c d i from None → at ≤ length d → ((k : ℕ) → from ≤ k → k < at → var_of (get_or d k 0) < var_of lit)
    → at < length d → get_or d at 0 ≡ neg lit → Comparing c d (i + 1) at (Some at)
comparing_flip c d i from at lit n in' read h le p lt is = record {
  within = le;
  passed = λ k m a b e. passed_more c d i from at lit None n in' read h p k m a (omega arith) e;
  flips = (i, omega arith, lt, is ∙ ap neg (read ∙ get_or_default c i lit 0 in'), λ m l ne. h.flips m (omega arith));
}

-- what stands in d by its negation stands not itself
not_there : (d : List ℕ) (p x : ℕ) → IsNormal d → p < length d → get_or d p 0 ≡ neg x → has d x ≡ false
not_there d p x n lt is =
    false_from_ne_true (has d x) (λ h. not_both d x n h (subst (λ (z : ℕ). has d z ≡ true) is (has_item d p 0 lt)))

-- a second flip
pub free_flips : (c d : List ℕ) (i from at lit p : ℕ) → IsNormal c → IsNormal d → i < length c → lit ≡ get_or c i lit → Comparing c d i from (Some p) → at < length d → get_or d at 0 ≡ neg lit → IsFree c d
free_flips c d i from at lit p n m in' read h lt is =
    let f = h.flips in
    let q = f.1 in
    let e : lit ≡ get_or c i 0 = read ∙ get_or_default c i lit 0 in' in
    free_two c d (get_or c f.0 0) lit
    (λ z. absurd (let b = n.rising f.0 i 0 q in' in let g : get_or c f.0 0 ≡ get_or c i 0 = z ∙ e in omega arith))
    (has_item c f.0 0 (omega arith)) (subst (λ (z : ℕ). has c z ≡ true) (sym e) (has_item c i 0 in')) (not_there d p (get_or c f.0 0) m f.2 f.3) (not_there d at lit m lt is)

-- a literal whose variable is not there
pub free_neither : (c d : List ℕ) (i from at lit : ℕ) (flipped : Option ℕ) → IsNormal c → IsNormal d → i < length c → lit ≡ get_or c i lit → Comparing c d i from flipped → ((k : ℕ) → from ≤ k → k < at → var_of (get_or d k 0) < var_of lit)
    → (at < length d → var_of lit ≤ var_of (get_or d at 0)) → (at < length d → (get_or d at 0 ≢ lit) × (get_or d at 0 ≢ neg lit)) → IsFree c d
free_neither c d i from at lit flipped n m in' read h p above ne =
    let e : lit ≡ get_or c i 0 = read ∙ get_or_default c i lit 0 in' in
    let below : (k : ℕ) → k < at → var_of (get_or d k 0) < var_of lit = λ k lt. subst (λ (z : ℕ). var_of (get_or d k 0) < var_of z) (sym e) (passed_more c d i from at lit flipped n in' read h p k i lt (omega arith) in') in
    free_missing c d lit (subst (λ (z : ℕ). has c z ≡ true) (sym e) (has_item c i 0 in')) (no_var d at lit lit m refl below above (λ l. (ne l).0)) (no_var d at lit (neg lit) m (var_of-neg lit) below above (λ l. (ne l).1))

-- all literals were met
pub all_within : (c d : List ℕ) (i at : ℕ) → length c ≤ i → Comparing c d i at None → IsWithin c d
all_within c d i at le h l x = let p = has_place c l 0 x in let a = p.1 in subst (λ (z : ℕ). has d z ≡ true) p.2 (h.flips p.0 (omega arith))

pub all_but_one : (c d : List ℕ) (i at p : ℕ) → IsNormal c → IsNormal d → length c ≤ i → Comparing c d i at (Some p) → i ≤ length c → (p < length d) × Resolves c d (get_or d p 0)
all_but_one c d i at p n m le h ge =
    let f = h.flips in
    let q = f.1 in
    let opp : neg (get_or d p 0) ≡ get_or c f.0 0 = ap neg f.3 ∙ neg-neg (get_or c f.0 0) in
    let there = has_item c f.0 0 (omega arith) in (
      f.2,
      record {
        here = has_item d p 0 f.2;
        opposite = subst (λ (z : ℕ). has c z ≡ true) (sym opp) there;
        rest = λ x hx ne.
            let k = has_place c x 0 hx in
            let lt = k.1 in (
              subst (λ (z : ℕ). has d z ≡ true) k.2 (f.4 k.0 (omega arith) (λ z. ne (sym k.2 ∙ ap (λ (y : ℕ). get_or c y 0) z ∙ sym opp))),
              λ z. not_both c (get_or c f.0 0) n there (subst (λ (y : ℕ). has c y ≡ true) (z ∙ f.3) hx),
            );
      },
    )

-- a flip, as the code reads it
pub flip_first : (c d : List ℕ) (i from at lit : ℕ) (flipped : Option ℕ) → is_some flipped ≡ false → IsNormal c → i < length c → lit ≡ get_or c i lit → Comparing c d i from flipped → at ≤ length d → ((k : ℕ) → from ≤ k → k < at → var_of (get_or d k 0) < var_of lit)
    → at < length d → get_or d at 0 ≡ neg lit → Comparing c d (i + 1) at (Some at)
flip_first c d i from at lit None none n in' read h le p lt is = comparing_flip c d i from at lit n in' read h le p lt is
flip_first c d i from at lit (Some q) none n in' read h le p lt is = absurd (false≢true (sym none))

pub flip_second : (c d : List ℕ) (i from at lit : ℕ) (flipped : Option ℕ) → is_some flipped ≡ true → IsNormal c → IsNormal d → i < length c → lit ≡ get_or c i lit → Comparing c d i from flipped → at < length d → get_or d at 0 ≡ neg lit → IsFree c d
flip_second c d i from at lit None some n m in' read h lt is = absurd (false≢true some)
flip_second c d i from at lit (Some q) some n m in' read h lt is = free_flips c d i from at lit q n m in' read h lt is
