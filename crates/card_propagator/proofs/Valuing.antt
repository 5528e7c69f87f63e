-- Laws of what was told: on a seen trail, by a table, and of the counts.
use Rattle.std.proofs.Common.{◌≡◌, ◌≢◌, ◌⊎◌, ℕ, zero, suc, ◌+◌, ◌-◌, ◌*◌, ◌/◌, ◌%◌, ◌<◌, ◌≤◌, Bool, true, false, ◌&&◌, not, cond, eqb, leb, List, [], ◌∷◌, ◌++◌, length, get_or, set, Option, Some, None, inl, inr, refl, sym, ap, ◌∙◌, subst, arith}
use Rattle.std.specs.List.{count_by, filter, list_all}
use Rattle.std.proofs.lemmas.Bool.{cases_eq, cases_lt, cases_Bool, eq-eqb, ne_eqb, eqb-true, eqb-false, leb-true, leb-false, le-leb, lt-leb, and_parts, and_from}
use Rattle.std.proofs.lemmas.List.{get_or-set_same, get_or-set_other}
use Rattle.std.proofs.lemmas.List.Sums.{sum_by-cons}
use Rattle.sat_terms.specs.Literal.{neg, var_of, pos_lit, neg_lit}
use Rattle.sat_terms.proofs.Literals.{var_of-neg, neg-other, same_var, var_of-pos_lit, neg-pos_lit}
use Rattle.user_propagator.specs.Board.{trail_value, SeenTrail, within}
use Rattle.user_propagator.specs.declared.seen.Seen.{Seen}
use Rattle.card_propagator.specs.declared.told.Told.{Told}
use Rattle.clause_store.specs.Listing.{times}
use Rattle.card_propagator.specs.Values.{told, told_value, value, trues, falses, is_true, is_false, keep, true_count, false_count}
use Rattle.card_propagator.specs.Following.{first_told, same_told, is_untold, agrees, all_agree, told_at_root, IsWider, are_apart, are_within, is_followed, Follows}
use Rattle.clause_store.proofs.Counts.{times-cons}

-- two different literals of one variable are opposite
pub other_is_negation : (a b : ℕ) → var_of a ≡ var_of b → a ≢ b → a ≡ neg b
other_is_negation a b v n = elim (same_var a b v) [ inl e ↦ absurd (n e) | inr o ↦ o ]

-- truth on a seen trail is truth by what was told of the variable
pub seen_value : (seen : List Seen) (l : ℕ) → trail_value seen l ≡ told_value (first_told seen (var_of l)) l
seen_value [] l = refl
seen_value (e ∷ es) l =
    elim (cases_eq (var_of e.lit) (var_of l)) [
      | inl s ↦ elim (cases_eq e.lit l) [
        | inl q ↦ rw (eq-eqb (var_of e.lit) (var_of l) s, eq-eqb e.lit l q) refl
        | inr n ↦ rw (eq-eqb (var_of e.lit) (var_of l) s, ne_eqb e.lit l n, eq-eqb e.lit (neg l) (other_is_negation e.lit l s n)) refl
      ]
      | inr d ↦
          let n : e.lit ≢ l = λ q. d (ap var_of q) in
          let m : e.lit ≢ neg l = λ q. d (ap var_of q ∙ var_of-neg l) in
          rw (ne_eqb (var_of e.lit) (var_of l) d, ne_eqb e.lit l n, ne_eqb e.lit (neg l) m) (seen_value es l)
    ]

pub untold_by : (o : Option Told) (l : ℕ) → told_value o l ≡ None → o ≡ None
untold_by None l h = refl
untold_by (Some e) l h = cc

pub untold_seen : (seen : List Seen) (l : ℕ) → trail_value seen l ≡ None → first_told seen (var_of l) ≡ None
untold_seen seen l h = untold_by (first_told seen (var_of l)) l (sym (seen_value seen l) ∙ h)

pub seen_untold : (seen : List Seen) (l : ℕ) → first_told seen (var_of l) ≡ None → trail_value seen l ≡ None
seen_untold seen l h = seen_value seen l ∙ ap (λ o. told_value o l) h

-- one more literal at the end
abbrev pub told_of : Seen → Told
told_of e = record { lit = e.lit; level = e.level }

pub first_put : (seen : List Seen) (e : Seen) (v : ℕ) → first_told seen (var_of e.lit) ≡ None → first_told (seen ++ e ∷ []) v ≡ cond (eqb (var_of e.lit) v) (Some (told_of e)) (first_told seen v)
first_put [] e v h = refl
first_put (x ∷ xs) e v h =
    elim (cases_eq (var_of x.lit) (var_of e.lit)) [
      | inl s ↦ let q = eq-eqb (var_of x.lit) (var_of e.lit) s in let n : ◌≡◌ {A = Option Told} (Some (told_of x)) None = rw q at h in cc
      | inr d ↦
          let rest : first_told xs (var_of e.lit) ≡ None = rw (ne_eqb (var_of x.lit) (var_of e.lit) d) at h in
          elim (cases_eq (var_of x.lit) v) [
            | inl s ↦ rw (eq-eqb (var_of x.lit) v s, ne_eqb (var_of e.lit) v (λ k. d (s ∙ sym k))) refl
            | inr n ↦ rw (ne_eqb (var_of x.lit) v n) (first_put xs e v rest)
          ]
    ]

untold_is : (o : Option Told) → o ≡ None → is_untold o ≡ true
untold_is o h = ap is_untold h

pub is_untold_None : (o : Option Told) → is_untold o ≡ true → o ≡ None
is_untold_None None h = refl
is_untold_None (Some e) h = cc

pub apart_put : (seen : List Seen) (e : Seen) → first_told seen (var_of e.lit) ≡ None → are_apart seen ≡ true → are_apart (seen ++ e ∷ []) ≡ true
apart_put [] e h a = refl
apart_put (x ∷ xs) e h a =
    let p = and_parts (is_untold (first_told xs (var_of x.lit))) (are_apart xs) a in
    elim (cases_eq (var_of x.lit) (var_of e.lit)) [
      | inl s ↦ let q = eq-eqb (var_of x.lit) (var_of e.lit) s in let n : ◌≡◌ {A = Option Told} (Some (told_of x)) None = rw q at h in cc
      | inr d ↦
          let rest : first_told xs (var_of e.lit) ≡ None = rw (ne_eqb (var_of x.lit) (var_of e.lit) d) at h in
          let none : first_told (xs ++ e ∷ []) (var_of x.lit) ≡ None = first_put xs e (var_of x.lit) rest ∙ ap (λ b. cond b (Some (told_of e)) (first_told xs (var_of x.lit))) (ne_eqb (var_of e.lit) (var_of x.lit) (λ k. d (sym k))) ∙ is_untold_None (first_told xs (var_of x.lit)) p.0 in
          and_from (is_untold (first_told (xs ++ e ∷ []) (var_of x.lit))) (are_apart (xs ++ e ∷ [])) (untold_is (first_told (xs ++ e ∷ []) (var_of x.lit)) none) (apart_put xs e rest p.1)
    ]

-- back at a level
keep_yes : (level : ℕ) (e : Told) → leb e.level level ≡ true → keep level (Some e) ≡ Some e
keep_yes level e h = ap (λ b. cond b (Some e) None) h

keep_no : (level : ℕ) (e : Told) → leb e.level level ≡ false → keep level (Some e) ≡ None
keep_no level e h = ap (λ b. cond b (Some e) None) h

within_yes : (level : ℕ) (e : Seen) (es : List Seen) → leb e.level level ≡ true → within level (e ∷ es) ≡ e ∷ within level es
within_yes level e es h = ap (λ b. cond b (e ∷ within level es) (within level es)) h

within_no : (level : ℕ) (e : Seen) (es : List Seen) → leb e.level level ≡ false → within level (e ∷ es) ≡ within level es
within_no level e es h = ap (λ b. cond b (e ∷ within level es) (within level es)) h

pub first_cut : (level : ℕ) (seen : List Seen) (v : ℕ) → are_apart seen ≡ true → first_told (within level seen) v ≡ keep level (first_told seen v)
first_cut level [] v a = refl
first_cut level (e ∷ es) v a =
    let p = and_parts (is_untold (first_told es (var_of e.lit))) (are_apart es) a in
    let rest = first_cut level es v p.1 in
    elim (cases_Bool (leb e.level level)) [
      | inl y ↦ rw (within_yes level e es y) (elim (cases_eq (var_of e.lit) v) [
        | inl s ↦ rw (eq-eqb (var_of e.lit) v s) (sym (keep_yes level (told_of e) y))
        | inr n ↦ rw (ne_eqb (var_of e.lit) v n) rest
      ])
      | inr far ↦ rw (within_no level e es far) (elim (cases_eq (var_of e.lit) v) [
        | inl s ↦ rw (eq-eqb (var_of e.lit) v s) (rest ∙ ap (keep level) (ap (first_told es) (sym s) ∙ is_untold_None (first_told es (var_of e.lit)) p.0) ∙ sym (keep_no level (told_of e) far))
        | inr n ↦ rw (ne_eqb (var_of e.lit) v n) rest
      ])
    ]

pub apart_cut : (level : ℕ) (seen : List Seen) → are_apart seen ≡ true → are_apart (within level seen) ≡ true
apart_cut level [] a = refl
apart_cut level (e ∷ es) a =
    let p = and_parts (is_untold (first_told es (var_of e.lit))) (are_apart es) a in
    elim (cases_Bool (leb e.level level)) [
      | inl y ↦ rw (within_yes level e es y) (and_from (is_untold (first_told (within level es) (var_of e.lit))) (are_apart (within level es))
          (untold_is (first_told (within level es) (var_of e.lit)) (first_cut level es (var_of e.lit) p.1 ∙ ap (keep level) (is_untold_None (first_told es (var_of e.lit)) p.0)))
          (apart_cut level es p.1))
      | inr far ↦ rw (within_no level e es far) (apart_cut level es p.1)
    ]

-- levels
pub within_put : (level : ℕ) (seen : List Seen) (e : Seen) → e.level ≤ level → are_within level seen ≡ true → are_within level (seen ++ e ∷ []) ≡ true
within_put level [] e h a = and_from (leb e.level level) true (le-leb e.level level h) refl
within_put level (x ∷ xs) e h a = let p = and_parts (leb x.level level) (are_within level xs) a in and_from (leb x.level level) (are_within level (xs ++ e ∷ [])) p.0 (within_put level xs e h p.1)

pub within_raise : (level higher : ℕ) (seen : List Seen) → level ≤ higher → are_within level seen ≡ true → are_within higher seen ≡ true
within_raise level higher [] h a = refl
within_raise level higher (x ∷ xs) h a = let p = and_parts (leb x.level level) (are_within level xs) a in and_from (leb x.level higher) (are_within higher xs) (let le = leb-true x.level level p.0 in le-leb x.level higher (omega arith)) (within_raise level higher xs h p.1)

pub within_cut : (level : ℕ) (seen : List Seen) → are_within level (within level seen) ≡ true
within_cut level [] = refl
within_cut level (e ∷ es) = elim (cases_Bool (leb e.level level)) [
  | inl y ↦ rw (within_yes level e es y) (and_from (leb e.level level) (are_within level (within level es)) y (within_cut level es))
  | inr far ↦ rw (within_no level e es far) (within_cut level es)
]

-- the test and the facts
told_same : (a b : Option Told) → same_told a b ≡ true → a ≡ b
told_same None None h = refl
told_same None (Some b) h = cc
told_same (Some a) None h = cc
told_same (Some a) (Some b) h = let p = and_parts (eqb a.lit b.lit) (eqb a.level b.level) h in let x = eqb-true a.lit b.lit p.0 in let y = eqb-true a.level b.level p.1 in ap (λ (n : ℕ). Some (record a { lit = n })) x ∙ ap (λ (n : ℕ). Some (record b { level = n })) y

same_as : (a : Option Told) → same_told a a ≡ true
same_as None = refl
same_as (Some a) = and_from (eqb a.lit a.lit) (eqb a.level a.level) (eq-eqb a.lit a.lit refl) (eq-eqb a.level a.level refl)

agrees_at : (t : List (Option Told)) (v : ℕ) (seen : List Seen) → agrees t v seen ≡ true → (k : ℕ) → k < length t → told t k ≡ first_told seen (v + k)
agrees_at [] v seen h k lt = absurd (omega arith)
agrees_at (t ∷ ts) v seen h zero lt = let p = and_parts (same_told t (first_told seen v)) (agrees ts (v + 1) seen) h in let z : v + 0 ≡ v = omega arith in rw z (told_same t (first_told seen v) p.0)
agrees_at (t ∷ ts) v seen h (suc k) lt = let p = and_parts (same_told t (first_told seen v)) (agrees ts (v + 1) seen) h in let z : v + suc k ≡ (v + 1) + k = omega arith in rw z (agrees_at ts (v + 1) seen p.1 k (omega arith))

agrees_from : (t : List (Option Told)) (v : ℕ) (seen : List Seen) → ((k : ℕ) → k < length t → told t k ≡ first_told seen (v + k)) → agrees t v seen ≡ true
agrees_from [] v seen h = refl
agrees_from (t ∷ ts) v seen h =
    let z : v + 0 ≡ v = omega arith in
    let e : t ≡ first_told seen v = h 0 (omega arith) ∙ ap (first_told seen) z in
    and_from (same_told t (first_told seen v)) (agrees ts (v + 1) seen) (ap (same_told t) (sym e) ∙ same_as t)
    (agrees_from ts (v + 1) seen (λ k lt. let q : v + suc k ≡ (v + 1) + k = omega arith in h (suc k) (omega arith) ∙ ap (first_told seen) q))

all_agree_at : (t : List (Option Told)) (seen : List Seen) → all_agree t seen ≡ true → (k : ℕ) → 0 < k → k < length t → told t k ≡ first_told seen k
all_agree_at [] seen h k pos lt = absurd (omega arith)
all_agree_at (t ∷ ts) seen h zero pos lt = absurd (omega arith)
all_agree_at (t ∷ ts) seen h (suc k) pos lt = let z : 1 + k ≡ suc k = omega arith in agrees_at ts 1 seen h k (omega arith) ∙ ap (first_told seen) z

all_agree_from : (t : List (Option Told)) (seen : List Seen) → ((k : ℕ) → 0 < k → k < length t → told t k ≡ first_told seen k) → all_agree t seen ≡ true
all_agree_from [] seen h = refl
all_agree_from (t ∷ ts) seen h = agrees_from ts 1 seen (λ k lt. let z : suc k ≡ 1 + k = omega arith in h (suc k) (omega arith) (omega arith) ∙ ap (first_told seen) z)

pub follows : (t : List (Option Told)) (level : ℕ) (trail : SeenTrail) → is_followed t level trail ≡ true → Follows t level trail
unfolding is_followed
follows t level trail h =
    let p = and_parts (eqb level trail.level) (all_agree t trail.seen && (are_apart trail.seen && are_within trail.level trail.seen)) h in
    let q = and_parts (all_agree t trail.seen) (are_apart trail.seen && are_within trail.level trail.seen) p.1 in
    let r = and_parts (are_apart trail.seen) (are_within trail.level trail.seen) q.1 in
    record {
      level = eqb-true level trail.level p.0;
      table = all_agree_at t trail.seen q.0;
      apart = r.0;
      within = r.1;
    }

pub followed : (t : List (Option Told)) (level : ℕ) (trail : SeenTrail) → Follows t level trail → is_followed t level trail ≡ true
unfolding is_followed
followed t level trail f =
    and_from (eqb level trail.level) (all_agree t trail.seen && (are_apart trail.seen && are_within trail.level trail.seen)) (eq-eqb level trail.level f.level)
    (and_from (all_agree t trail.seen) (are_apart trail.seen && are_within trail.level trail.seen)
    (all_agree_from t trail.seen f.table)
    (and_from (are_apart trail.seen) (are_within trail.level trail.seen) f.apart f.within))

-- the counts after a variable was told
one_put : (t : List (Option Told)) (v : ℕ) (e : Told) (l : ℕ) → v < length t → told t v ≡ None → var_of e.lit ≡ v → cond {A = ℕ} (is_true (value (set t v (Some e)) l)) 1 0 ≡ cond {A = ℕ} (is_true (value t l)) 1 0 + cond {A = ℕ} (eqb l e.lit) 1 0
one_put t v e l lt none own =
    elim (cases_eq (var_of l) v) [
      | inl s ↦ rw (s, get_or-set_same t v (Some e) None lt, none) (elim (cases_eq l e.lit) [
        | inl q ↦ rw (eq-eqb l e.lit q, eq-eqb e.lit l (sym q)) refl
        | inr n ↦ rw (ne_eqb l e.lit n, ne_eqb e.lit l (λ q. n (sym q))) refl
      ])
      | inr d ↦ rw (get_or-set_other t v (var_of l) (Some e) None d, ne_eqb l e.lit (λ q. d (ap var_of q ∙ own))) (omega arith)
    ]

pub trues_put : (t : List (Option Told)) (v : ℕ) (e : Told) (c : List ℕ) → v < length t → told t v ≡ None → var_of e.lit ≡ v → trues (set t v (Some e)) c ≡ trues t c + times c e.lit
trues_put t v e [] lt none own = refl
trues_put t v e (l ∷ c) lt none own =
    let s = set t v (Some e) in
    let a = sum_by-cons (λ x. cond {A = ℕ} (is_true (value s x)) 1 0) l c in
    let b = sum_by-cons (λ x. cond {A = ℕ} (is_true (value t x)) 1 0) l c in
    omega (arith, a, b, times-cons l c e.lit, one_put t v e l lt none own, trues_put t v e c lt none own)

one_fall : (t : List (Option Told)) (v : ℕ) (e : Told) (l : ℕ) → v < length t → told t v ≡ None → var_of e.lit ≡ v → cond {A = ℕ} (is_false (value (set t v (Some e)) l)) 1 0 ≡ cond {A = ℕ} (is_false (value t l)) 1 0 + cond {A = ℕ} (eqb l (neg e.lit)) 1 0
one_fall t v e l lt none own =
    elim (cases_eq (var_of l) v) [
      | inl s ↦ rw (s, get_or-set_same t v (Some e) None lt, none) (elim (cases_eq l e.lit) [
        | inl q ↦ rw (ne_eqb l (neg e.lit) (λ k. neg-other e.lit (sym k ∙ q)), eq-eqb e.lit l (sym q)) refl
        | inr n ↦ rw (eq-eqb l (neg e.lit) (other_is_negation l e.lit (s ∙ sym own) n), ne_eqb e.lit l (λ q. n (sym q))) refl
      ])
      | inr d ↦ rw (get_or-set_other t v (var_of l) (Some e) None d, ne_eqb l (neg e.lit) (λ q. d (ap var_of q ∙ var_of-neg e.lit ∙ own))) (omega arith)
    ]

pub falses_put : (t : List (Option Told)) (v : ℕ) (e : Told) (c : List ℕ) → v < length t → told t v ≡ None → var_of e.lit ≡ v → falses (set t v (Some e)) c ≡ falses t c + times c (neg e.lit)
falses_put t v e [] lt none own = refl
falses_put t v e (l ∷ c) lt none own =
    let s = set t v (Some e) in
    let a = sum_by-cons (λ x. cond {A = ℕ} (is_false (value s x)) 1 0) l c in
    let b = sum_by-cons (λ x. cond {A = ℕ} (is_false (value t x)) 1 0) l c in
    omega (arith, a, b, times-cons l c (neg e.lit), one_fall t v e l lt none own, falses_put t v e c lt none own)

-- a trail at the root
first_own : (seen : List Seen) (v : ℕ) (e : Told) → first_told seen v ≡ Some e → var_of e.lit ≡ v
first_own [] v e h = cc
first_own (x ∷ xs) v e h = elim (cases_eq (var_of x.lit) v) [
  | inl s ↦ let k : ◌≡◌ {A = Option Told} (Some (told_of x)) (Some e) = rw (eq-eqb (var_of x.lit) v s) at h in let m : told_of x ≡ e = cc in ap (λ (y : Told). var_of y.lit) (sym m) ∙ s
  | inr n ↦ first_own xs v e (rw (ne_eqb (var_of x.lit) v n) at h)
]

first_low : (level : ℕ) (seen : List Seen) (v : ℕ) (e : Told) → are_within level seen ≡ true → first_told seen v ≡ Some e → e.level ≤ level
first_low level [] v e a h = cc
first_low level (x ∷ xs) v e a h =
    let p = and_parts (leb x.level level) (are_within level xs) a in
    elim (cases_eq (var_of x.lit) v) [
      | inl s ↦ let k : ◌≡◌ {A = Option Told} (Some (told_of x)) (Some e) = rw (eq-eqb (var_of x.lit) v s) at h in let m : told_of x ≡ e = cc in let le = leb-true x.level level p.0 in let q = ap (λ (y : Told). y.level) m in omega (arith, le, q)
      | inr n ↦ first_low level xs v e p.1 (rw (ne_eqb (var_of x.lit) v n) at h)
    ]

pub told_none : (seen : List Seen) (v : ℕ) → trail_value seen (pos_lit v) ≡ None → first_told seen v ≡ None
told_none seen v h = ap (first_told seen) (sym (var_of-pos_lit v)) ∙ untold_seen seen (pos_lit v) h

some_told : (o : Option Told) (l : ℕ) (b : Bool) → told_value o l ≡ Some b → (e : Told) × (o ≡ Some e) × (eqb e.lit l ≡ b)
some_told None l b h = cc
some_told (Some e) l b h = (e, refl, cc)

-- what a value of the positive literal says
value_told : (seen : List Seen) (v : ℕ) (b : Bool) → trail_value seen (pos_lit v) ≡ Some b → (e : Told) × (first_told seen v ≡ Some e) × (eqb e.lit (pos_lit v) ≡ b)
value_told seen v b h = some_told (first_told seen v) (pos_lit v) b (ap (λ w. told_value (first_told seen w) (pos_lit v)) (sym (var_of-pos_lit v)) ∙ sym (seen_value seen (pos_lit v)) ∙ h)

pub told_up : (seen : List Seen) (v : ℕ) → are_within 0 seen ≡ true → trail_value seen (pos_lit v) ≡ Some true → first_told seen v ≡ Some (record { lit = pos_lit v; level = 0 })
told_up seen v a h =
    let s = value_told seen v true h in
    let lit = eqb-true s.0.lit (pos_lit v) s.2 in
    let low = first_low 0 seen v s.0 a s.1 in
    let level : s.0.level ≡ 0 = omega arith in
    s.1 ∙ ap (λ (n : ℕ). Some (record s.0 { lit = n })) lit ∙ ap (λ (n : ℕ). Some (record { lit = pos_lit v; level = n })) level

pub told_down : (seen : List Seen) (v : ℕ) → are_within 0 seen ≡ true → trail_value seen (pos_lit v) ≡ Some false → first_told seen v ≡ Some (record { lit = neg_lit v; level = 0 })
told_down seen v a h =
    let s = value_told seen v false h in
    let other = eqb-false s.0.lit (pos_lit v) s.2 in
    let own = first_own seen v s.0 s.1 in
    let lit : s.0.lit ≡ neg_lit v = other_is_negation s.0.lit (pos_lit v) (own ∙ sym (var_of-pos_lit v)) other ∙ neg-pos_lit v in
    let low = first_low 0 seen v s.0 a s.1 in
    let level : s.0.level ≡ 0 = omega arith in
    s.1 ∙ ap (λ (n : ℕ). Some (record s.0 { lit = n })) lit ∙ ap (λ (n : ℕ). Some (record { lit = neg_lit v; level = n })) level

pub entry_own : (seen : List Seen) (v : ℕ) (e : Told) → told_at_root seen v ≡ Some e → var_of e.lit ≡ v
entry_own seen v e h = elim (cases_eq v 0) [
  | inl z ↦ let k : ◌≡◌ {A = Option Told} None (Some e) = rw (eq-eqb v 0 z) at h in cc
  | inr n ↦ first_own seen v e (rw (ne_eqb v 0 n) at h)
]

pub entry_low : (seen : List Seen) (v : ℕ) (e : Told) → are_within 0 seen ≡ true → told_at_root seen v ≡ Some e → e.level ≡ 0
entry_low seen v e a h = elim (cases_eq v 0) [
  | inl z ↦ let k : ◌≡◌ {A = Option Told} None (Some e) = rw (eq-eqb v 0 z) at h in cc
  | inr n ↦ let low = first_low 0 seen v e a (rw (ne_eqb v 0 n) at h) in omega arith
]

pub entry_zero : (seen : List Seen) (v : ℕ) → v ≡ 0 → told_at_root seen v ≡ None
entry_zero seen v z = ap (λ b. cond b None (first_told seen v)) (eq-eqb v 0 z)

pub entry_at : (seen : List Seen) (v : ℕ) → v ≢ 0 → told_at_root seen v ≡ first_told seen v
entry_at seen v n = ap (λ b. cond b None (first_told seen v)) (ne_eqb v 0 n)
