-- What a counter keeps, when a variable is told and when that is taken back.
use Rattle.std.proofs.Common.{◌≡◌, ◌≢◌, ◌⊎◌, ℕ, zero, suc, ◌+◌, ◌-◌, ◌<◌, ◌≤◌, ◌^◌, Bool, true, false, ◌||◌, not, cond, eqb, ltb, List, [], ◌∷◌, ◌++◌, length, get_or, set, take, Option, Some, None, inl, inr, refl, sym, ap, ◌∙◌, subst, arith}
use Rattle.std.specs.List.{count_by}
use Rattle.std.proofs.lemmas.Bool.{cases_eq, cases_lt, cases_Bool, eq-eqb, ne_eqb, or_cases, or_parts, lt-ltb, ltb-false}
use Rattle.std.proofs.lemmas.List.{get_or-set_same, get_or-set_other, get_or_past, length-set, length-append, set-set, set-get_or}
use Rattle.std.proofs.lemmas.List.Sums.{sum_by-set, count_by-le-length}
use Rattle.sat_terms.specs.Literal.{has, neg, var_of}
use Rattle.flag_set.specs.Work.{Work}
use Rattle.card_propagator.proofs.Waiting.{times_some, times_none}
use Rattle.sat_model.specs.declared.constraint.Constraint.{Constraint}
use Rattle.card_propagator.specs.declared.told.Told.{Told}
use Rattle.clause_store.specs.Listing.{times}
use Rattle.clause_store.specs.Lists.{occ_at}
use Rattle.card_propagator.specs.Values.{told, told_value, value, trues, falses, keep}
use Rattle.card_propagator.specs.Counting.{rule, lits_at, bound_at, height, is_told, AreHeld, AreCounted, AreStacked, AreSettled, ArePassed, IsSettled, IsKept, Undone}
use Rattle.clause_store.proofs.Counts.{gains_push, times_at, times_place}
use Rattle.card_propagator.proofs.Valuing.{trues_put, falses_put, other_is_negation}
use Rattle.sat_terms.proofs.Literals.{var_of-neg}

-- a rule that holds a literal is one of the rules
pub held-within : (rules : List Constraint) (holders : List (List ℕ)) (n k l : ℕ) → AreHeld rules holders n → 0 < times (occ_at holders l) k → k < length rules
held-within rules holders n k l h pos =
    elim (cases_lt k (length rules)) [
      | inl lt ↦ lt
      | inr le ↦
          let z : times (lits_at rules k) l ≡ 0 = rw (get_or_past rules k (rule [] 0) le) refl in
          absurd (omega (arith, h.held k l))
    ]

-- the holders of a literal are rules
pub holders-within : (rules : List Constraint) (holders : List (List ℕ)) (n l : ℕ) → AreHeld rules holders n → (k : ℕ) → has (occ_at holders l) k ≡ true → k < length rules
holders-within rules holders n l h k w = held-within rules holders n k l h (times_some (occ_at holders l) k w)

-- those that waited and those that are let wait are rules
waiting-within : (rules : List Constraint) (holders : List (List ℕ)) (t : List (Option Told)) (q q' : Work ℕ) (l : ℕ) → AreHeld rules holders (length t) → AreSettled rules t q
    → ((k : ℕ) → has q'.members k ≡ (has q.members k || has (occ_at holders l) k)) → (k : ℕ) → has q'.members k ≡ true → k < length rules
waiting-within rules holders t q q' l h a waits k w =
    elim (or_cases (has q.members k) (has (occ_at holders l) k) (sym (waits k) ∙ w)) [
      | inl old ↦ a.within k old
      | inr new ↦ holders-within rules holders (length t) l h k new
    ]

-- the counts have room
pub ups_room : (rules : List Constraint) (holders : List (List ℕ)) (t : List (Option Told)) (true_counts false_counts : List ℕ) (v : ℕ) (e : Told) → AreHeld rules holders (length t) → AreCounted rules t true_counts false_counts → v < length t → told t v ≡ None → var_of e.lit ≡ v
    → (k : ℕ) → get_or true_counts k 0 + times (occ_at holders e.lit) k < 2 ^ 64
ups_room rules holders t true_counts false_counts v e h a lt none own k =
    let c = lits_at rules k in
    let le = count_by-le-length (λ l. Rattle.card_propagator.specs.Values.is_true (value (set t v (Some e)) l)) c in
    omega (arith, a.up k, h.held k e.lit, h.fits k, trues_put t v e c lt none own, le)

pub downs_room : (rules : List Constraint) (holders : List (List ℕ)) (t : List (Option Told)) (true_counts false_counts : List ℕ) (v : ℕ) (e : Told) → AreHeld rules holders (length t) → AreCounted rules t true_counts false_counts → v < length t → told t v ≡ None → var_of e.lit ≡ v
    → (k : ℕ) → get_or false_counts k 0 + times (occ_at holders (neg e.lit)) k < 2 ^ 64
downs_room rules holders t true_counts false_counts v e h a lt none own k =
    let c = lits_at rules k in
    let le = count_by-le-length (λ l. Rattle.card_propagator.specs.Values.is_false (value (set t v (Some e)) l)) c in
    omega (arith, a.down k, h.held k (neg e.lit), h.fits k, falses_put t v e c lt none own, le)

pub counted_put : (rules : List Constraint) (holders : List (List ℕ)) (t : List (Option Told)) (true_counts false_counts true_counts' false_counts' : List ℕ) (v : ℕ) (e : Told) → AreHeld rules holders (length t) → AreCounted rules t true_counts false_counts → v < length t → told t v ≡ None → var_of e.lit ≡ v
    → length true_counts' ≡ length true_counts → length false_counts' ≡ length false_counts
    → ((k : ℕ) → get_or true_counts' k 0 ≡ get_or true_counts k 0 + times (occ_at holders e.lit) k)
    → ((k : ℕ) → get_or false_counts' k 0 ≡ get_or false_counts k 0 + times (occ_at holders (neg e.lit)) k)
    → AreCounted rules (set t v (Some e)) true_counts' false_counts'
counted_put rules holders t true_counts false_counts true_counts' false_counts' v e h a lt none own su sd hu hd = record {
  up_size = su ∙ a.up_size;
  down_size = sd ∙ a.down_size;
  up = λ k. omega (arith, hu k, a.up k, h.held k e.lit, trues_put t v e (lits_at rules k) lt none own);
  down = λ k. omega (arith, hd k, a.down k, h.held k (neg e.lit), falses_put t v e (lits_at rules k) lt none own);
}

-- a table is what it is without a variable, with that put again
put_again : (t : List (Option Told)) (v : ℕ) (e : Told) → told t v ≡ Some e → t ≡ set (set t v None) v (Some e)
put_again t v e h = sym (set-set t v None (Some e) ∙ ap (set t v) (sym h) ∙ set-get_or t v None)

pub told-within : (t : List (Option Told)) (v : ℕ) (e : Told) → told t v ≡ Some e → v < length t
told-within t v e h = elim (cases_lt v (length t)) [ inl l ↦ l | inr le ↦ let z : told t v ≡ None = get_or_past t v None le in cc ]

pub trues_undo : (t : List (Option Told)) (v : ℕ) (e : Told) (c : List ℕ) → told t v ≡ Some e → var_of e.lit ≡ v → trues t c ≡ trues (set t v None) c + times c e.lit
trues_undo t v e c h own =
    let lt = told-within t v e h in
    let lt' : v < length (set t v None) = rw length-set lt in
    ap (λ x. trues x c) (put_again t v e h) ∙ trues_put (set t v None) v e c lt' (get_or-set_same t v None None lt) own

pub falses_undo : (t : List (Option Told)) (v : ℕ) (e : Told) (c : List ℕ) → told t v ≡ Some e → var_of e.lit ≡ v → falses t c ≡ falses (set t v None) c + times c (neg e.lit)
falses_undo t v e c h own =
    let lt = told-within t v e h in
    let lt' : v < length (set t v None) = rw length-set lt in
    ap (λ x. falses x c) (put_again t v e h) ∙ falses_put (set t v None) v e c lt' (get_or-set_same t v None None lt) own

pub ups_enough : (rules : List Constraint) (holders : List (List ℕ)) (t : List (Option Told)) (true_counts false_counts : List ℕ) (v : ℕ) (e : Told) → AreHeld rules holders (length t) → AreCounted rules t true_counts false_counts → told t v ≡ Some e → var_of e.lit ≡ v
    → (k : ℕ) → times (occ_at holders e.lit) k ≤ get_or true_counts k 0
ups_enough rules holders t true_counts false_counts v e h a is own k = omega (arith, a.up k, h.held k e.lit, trues_undo t v e (lits_at rules k) is own)

pub downs_enough : (rules : List Constraint) (holders : List (List ℕ)) (t : List (Option Told)) (true_counts false_counts : List ℕ) (v : ℕ) (e : Told) → AreHeld rules holders (length t) → AreCounted rules t true_counts false_counts → told t v ≡ Some e → var_of e.lit ≡ v
    → (k : ℕ) → times (occ_at holders (neg e.lit)) k ≤ get_or false_counts k 0
downs_enough rules holders t true_counts false_counts v e h a is own k = omega (arith, a.down k, h.held k (neg e.lit), falses_undo t v e (lits_at rules k) is own)

pub counted_undo : (rules : List Constraint) (holders : List (List ℕ)) (t : List (Option Told)) (true_counts false_counts true_counts' false_counts' : List ℕ) (v : ℕ) (e : Told) → AreHeld rules holders (length t) → AreCounted rules t true_counts false_counts → told t v ≡ Some e → var_of e.lit ≡ v
    → length true_counts' ≡ length true_counts → length false_counts' ≡ length false_counts
    → ((k : ℕ) → get_or true_counts' k 0 + times (occ_at holders e.lit) k ≡ get_or true_counts k 0)
    → ((k : ℕ) → get_or false_counts' k 0 + times (occ_at holders (neg e.lit)) k ≡ get_or false_counts k 0)
    → AreCounted rules (set t v None) true_counts' false_counts'
counted_undo rules holders t true_counts false_counts true_counts' false_counts' v e h a is own su sd hu hd = record {
  up_size = su ∙ a.up_size;
  down_size = sd ∙ a.down_size;
  up = λ k. omega (arith, hu k, a.up k, h.held k e.lit, trues_undo t v e (lits_at rules k) is own);
  down = λ k. omega (arith, hd k, a.down k, h.held k (neg e.lit), falses_undo t v e (lits_at rules k) is own);
}

-- the stack
place_height : (n : ℕ) → (n ≢ 0) → cond {A = ℕ} (eqb n 0) 0 1 ≡ 1
place_height n h = ap (λ b. cond {A = ℕ} b 0 1) (ne_eqb n 0 h)

no_height : (n : ℕ) → n ≡ 0 → cond {A = ℕ} (eqb n 0) 0 1 ≡ 0
no_height n h = ap (λ b. cond {A = ℕ} b 0 1) (eq-eqb n 0 h)

get-push_old : (xs : List ℕ) (v i : ℕ) → i < length xs → get_or (xs ++ v ∷ []) i 0 ≡ get_or xs i 0
get-push_old [] v i lt = absurd (omega arith)
get-push_old (x ∷ xs) v zero lt = refl
get-push_old (x ∷ xs) v (suc i) lt = get-push_old xs v i (omega arith)

get-push_new : (xs : List ℕ) (v i : ℕ) → i ≡ length xs → get_or (xs ++ v ∷ []) i 0 ≡ v
get-push_new [] v i e = rw e refl
get-push_new (x ∷ xs) v zero e = absurd (omega arith)
get-push_new (x ∷ xs) v (suc i) e = get-push_new xs v i (omega arith)

-- those on a stack without v are others
others_at : (s : List ℕ) (v i : ℕ) → times s v ≡ 0 → i < length s → get_or s i 0 ≢ v
others_at s v i none lt e = let p = times_at s i lt in absurd (let q : 0 < times s v = rw (← e) p in omega arith)

told_one : (t : List (Option Told)) (v : ℕ) (e : Told) → v < length t → told t v ≡ None → count_by is_told (set t v (Some e)) ≡ count_by is_told t + 1
told_one t v e lt none = let s = sum_by-set (λ o. cond {A = ℕ} (is_told o) 1 0) t v (Some e) None lt in let z : cond {A = ℕ} (is_told (told t v)) 1 0 ≡ 0 = ap (λ o. cond {A = ℕ} (is_told o) 1 0) none in omega (arith, s, z)

told_less : (t : List (Option Told)) (v : ℕ) (e : Told) → told t v ≡ Some e → count_by is_told (set t v None) + 1 ≡ count_by is_told t
told_less t v e is = let s = sum_by-set (λ o. cond {A = ℕ} (is_told o) 1 0) t v None None (told-within t v e is) in let z : cond {A = ℕ} (is_told (told t v)) 1 0 ≡ 1 = ap (λ o. cond {A = ℕ} (is_told o) 1 0) is in omega (arith, s, z)

pub stacked_room : (t : List (Option Told)) (s : List ℕ) (level v room : ℕ) → AreStacked t s level → v < length t → told t v ≡ None → length t ≤ room → length s < room
stacked_room t s level v room a lt none le =
    let e : Told = record { lit = 0; level = 0 } in
    let one = told_one t v e lt none in
    let few = count_by-le-length is_told (set t v (Some e)) in
    let same : length (set t v (Some e)) ≡ length t = length-set t v (Some e) in
    omega (arith, a.room, one, few, same)

stacked_put_zero : (t : List (Option Told)) (s : List ℕ) (level v : ℕ) (e : Told) → AreStacked t s level → v < length t → told t v ≡ None → e.level ≡ level → var_of e.lit ≡ v → level ≡ 0 → AreStacked (set t v (Some e)) s level
stacked_put_zero t s level v e a lt none lev own z =
    let new = set t v (Some e) in
    let same : told new v ≡ Some e = get_or-set_same t v (Some e) None lt in
    let other : ((w : ℕ) → w ≢ v → told new w ≡ told t w) = λ w n. get_or-set_other t v w (Some e) None n in
    let off : times s v ≡ 0 = a.stands v ∙ no_height (height (told t v)) (ap height none) in
    record {
      stands = λ w. elim (cases_eq w v) [
        | inl q ↦ rw q (off ∙ sym (no_height (height (told new v)) (ap height same ∙ lev ∙ z)))
        | inr n ↦ rw (other w n) (a.stands w)
      ];
      rising = λ i j le lt'. rw (other (get_or s i 0) (others_at s v i off (omega arith)), other (get_or s j 0) (others_at s v j off lt')) (a.rising i j le lt');
      below = λ w. elim (cases_eq w v) [ inl q ↦ rw (q, same) (omega arith) | inr n ↦ rw (other w n) (a.below w) ];
      room = omega (arith, a.room, told_one t v e lt none);
      own = λ w x is. elim (cases_eq w v) [
        | inl q ↦ let k : Some e ≡ Some x = sym same ∙ ap (told new) (sym q) ∙ is in let m : e ≡ x = cc in ap (λ (y : Told). var_of y.lit) (sym m) ∙ own ∙ sym q
        | inr n ↦ a.own w x (sym (other w n) ∙ is)
      ];
    }

stacked_put_more : (t : List (Option Told)) (s : List ℕ) (level v : ℕ) (e : Told) → AreStacked t s level → v < length t → told t v ≡ None → e.level ≡ level → var_of e.lit ≡ v → level ≢ 0 → AreStacked (set t v (Some e)) (s ++ v ∷ []) level
stacked_put_more t s level v e a lt none lev own z =
    let new = set t v (Some e) in
    let same : told new v ≡ Some e = get_or-set_same t v (Some e) None lt in
    let other : ((w : ℕ) → w ≢ v → told new w ≡ told t w) = λ w n. get_or-set_other t v w (Some e) None n in
    let off : times s v ≡ 0 = a.stands v ∙ no_height (height (told t v)) (ap height none) in
    let high : height (told new v) ≡ level = ap height same ∙ lev in
    let below : ((w : ℕ) → height (told new w) ≤ level) = λ w. elim (cases_eq w v) [ inl q ↦ rw (q, same) (omega arith) | inr n ↦ rw (other w n) (a.below w) ] in
    let size : length (s ++ v ∷ []) ≡ length s + 1 = simp length-append in
    record {
      stands = λ w. elim (cases_eq w v) [
        | inl q ↦ rw q ((gains_push s v).here ∙ ap (λ x. x + 1) off ∙ omega arith ∙ sym (place_height (height (told new v)) (λ y. z (sym high ∙ y))))
        | inr n ↦ (gains_push s v).others w n ∙ a.stands w ∙ ap (λ o. cond {A = ℕ} (eqb (height o) 0) 0 1) (sym (other w n))
      ];
      rising = λ i j le lt'. elim (cases_lt j (length s)) [
        | inl old ↦
            let li : i < length s = omega arith in
            rw (get-push_old s v i li, get-push_old s v j old, other (get_or s i 0) (others_at s v i off li), other (get_or s j 0) (others_at s v j off old)) (a.rising i j le old)
        | inr last ↦
            let q : j ≡ length s = omega (arith, size) in
            rw (get-push_new s v j q, high) (below (get_or (s ++ v ∷ []) i 0))
      ];
      below = below;
      room = omega (arith, a.room, told_one t v e lt none, size);
      own = λ w x is. elim (cases_eq w v) [
        | inl q ↦ let k : Some e ≡ Some x = sym same ∙ ap (told new) (sym q) ∙ is in let m : e ≡ x = cc in ap (λ (y : Told). var_of y.lit) (sym m) ∙ own ∙ sym q
        | inr n ↦ a.own w x (sym (other w n) ∙ is)
      ];
    }

pub stacked_put : (t : List (Option Told)) (s s' : List ℕ) (level v : ℕ) (e : Told) → AreStacked t s level → v < length t → told t v ≡ None → e.level ≡ level → var_of e.lit ≡ v → s' ≡ cond (eqb level 0) s (s ++ v ∷ []) → AreStacked (set t v (Some e)) s' level
stacked_put t s s' level v e a lt none lev own is =
    elim (cases_eq level 0) [
      | inl z ↦ let q : s' ≡ s = is ∙ ap (λ b. cond b s (s ++ v ∷ [])) (eq-eqb level 0 z) in rw q (stacked_put_zero t s level v e a lt none lev own z)
      | inr n ↦ let q : s' ≡ s ++ v ∷ [] = is ∙ ap (λ b. cond b s (s ++ v ∷ [])) (ne_eqb level 0 n) in rw q (stacked_put_more t s level v e a lt none lev own n)
    ]

pub stacked_undo : (t : List (Option Told)) (s : List ℕ) (level v : ℕ) (e : Told) → AreStacked t (s ++ v ∷ []) level → told t v ≡ Some e → AreStacked (set t v None) s level
stacked_undo t s level v e a is =
    let new = set t v None in
    let lt = told-within t v e is in
    let same : told new v ≡ None = get_or-set_same t v None None lt in
    let other : ((w : ℕ) → w ≢ v → told new w ≡ told t w) = λ w n. get_or-set_other t v w None None n in
    let gain = gains_push s v in
    let size : length (s ++ v ∷ []) ≡ length s + 1 = simp length-append in
    let off : times s v ≡ 0 = elim (cases_eq (height (told t v)) 0) [
      | inl z ↦ absurd (omega (arith, a.stands v, no_height (height (told t v)) z, gain.here))
      | inr n ↦ omega (arith, a.stands v, place_height (height (told t v)) n, gain.here)
    ] in
    record {
      stands = λ w. elim (cases_eq w v) [
        | inl q ↦ rw q (off ∙ sym (no_height (height (told new v)) (ap height same)))
        | inr n ↦ sym (gain.others w n) ∙ a.stands w ∙ ap (λ o. cond {A = ℕ} (eqb (height o) 0) 0 1) (sym (other w n))
      ];
      rising = λ i j le lt'.
          let li : i < length s = omega arith in
          let r = a.rising i j le (omega (arith, size)) in
          let r' = rw (get-push_old s v i li, get-push_old s v j lt') at r in
          rw (other (get_or s i 0) (others_at s v i off li), other (get_or s j 0) (others_at s v j off lt')) r';
      below = λ w. elim (cases_eq w v) [ inl q ↦ rw (q, same) (omega arith) | inr n ↦ rw (other w n) (a.below w) ];
      room = omega (arith, a.room, told_less t v e is, size);
      own = λ w x k. elim (cases_eq w v) [
        | inl q ↦ let m : None ≡ Some x = sym same ∙ ap (told new) (sym q) ∙ k in cc
        | inr n ↦ a.own w x (sym (other w n) ∙ k)
      ];
    }

-- what stands on the stack was told
pub top_told : (t : List (Option Told)) (s : List ℕ) (level v : ℕ) → AreStacked t (s ++ v ∷ []) level → told t v ≡ None → ⊥
top_told t s level v a none = absurd (omega (arith, a.stands v, no_height (height (told t v)) (ap height none), (gains_push s v).here))

-- where the newest is low, all are
pub all_low : (t : List (Option Told)) (s : List ℕ) (level v low : ℕ) → AreStacked t (s ++ v ∷ []) level → height (told t v) ≤ low → (w : ℕ) → height (told t w) ≤ low
all_low t s level v low a h w =
    elim (cases_eq (height (told t w)) 0) [
      | inl z ↦ omega arith
      | inr n ↦
          let size : length (s ++ v ∷ []) ≡ length s + 1 = simp length-append in
          let at = times_place (s ++ v ∷ []) w (omega (arith, a.stands w, place_height (height (told t w)) n)) in
          let r = a.rising at.0 (length s) (omega (arith, at.1, size)) (omega (arith, size)) in
          let r' = rw (at.2, get-push_new s v (length s) refl) at r in
          omega (arith, r', h)
    ]

pub none_high : (t : List (Option Told)) (s : List ℕ) (level low : ℕ) → AreStacked t s level → s ≡ [] → (w : ℕ) → height (told t w) ≤ low
none_high t s level low a e w =
    elim (cases_eq (height (told t w)) 0) [
      | inl z ↦ omega arith
      | inr n ↦ let q : times s w ≡ 0 = ap (λ x. times x w) e in absurd (omega (arith, a.stands w, place_height (height (told t w)) n, q))
    ]

pub stacked_raise : (t : List (Option Told)) (s : List ℕ) (level higher : ℕ) → AreStacked t s level → level ≤ higher → AreStacked t s higher
stacked_raise t s level higher a le = record { stands = a.stands; rising = a.rising; below = λ v. omega (arith, a.below v); room = a.room; own = a.own }

pub stacked_lower : (t : List (Option Told)) (s : List ℕ) (level low : ℕ) → AreStacked t s level → ((v : ℕ) → height (told t v) ≤ low) → AreStacked t s low
stacked_lower t s level low a le = record { stands = a.stands; rising = a.rising; below = le; room = a.room; own = a.own }

-- the rules that do not wait
pub settled_put : (rules : List Constraint) (holders : List (List ℕ)) (t : List (Option Told)) (q q' : Work ℕ) (v : ℕ) (e : Told) → AreHeld rules holders (length t) → AreSettled rules t q → v < length t → told t v ≡ None → var_of e.lit ≡ v
    → q'.room ≡ q.room → ((k : ℕ) → has q'.members k ≡ (has q.members k || has (occ_at holders (neg e.lit)) k))
    → AreSettled rules (set t v (Some e)) q'
settled_put rules holders t q q' v e h a lt none own room waits = record {
  within = λ k w. waiting-within rules holders t q q' (neg e.lit) h a waits k w;
  room = rw room a.room;
  settled = λ k within h'.
      let p = or_parts (has q.members k) (has (occ_at holders (neg e.lit)) k) (sym (waits k) ∙ h') in
      let s = a.settled k within p.0 in
      let c = lits_at rules k in
      let f : falses (set t v (Some e)) c ≡ falses t c = omega (arith, falses_put t v e c lt none own, h.held k (neg e.lit), times_none (occ_at holders (neg e.lit)) k p.1) in
      record {
        holds = rw f s.holds;
        spare = λ l free. rw f (s.spare l (elim (cases_eq (var_of l) v) [
          | inl q ↦ let y : told_value (Some e) l ≡ None = ap (λ o. told_value o l) (sym (ap (told (set t v (Some e))) q ∙ get_or-set_same t v (Some e) None lt)) ∙ free in cc
          | inr n ↦ ap (λ o. told_value o l) (sym (get_or-set_other t v (var_of l) (Some e) None n)) ∙ free
        ]));
      };
}

pub settled_undo : (rules : List Constraint) (holders : List (List ℕ)) (t : List (Option Told)) (q q' : Work ℕ) (v : ℕ) (e : Told) → AreHeld rules holders (length t) → AreSettled rules t q → told t v ≡ Some e → var_of e.lit ≡ v
    → q'.room ≡ q.room → ((k : ℕ) → has q'.members k ≡ (has q.members k || has (occ_at holders e.lit) k))
    → AreSettled rules (set t v None) q'
settled_undo rules holders t q q' v e h a is own room waits = record {
  within = λ k w. waiting-within rules holders t q q' e.lit h a waits k w;
  room = rw room a.room;
  settled = λ k within h'.
      let p = or_parts (has q.members k) (has (occ_at holders e.lit) k) (sym (waits k) ∙ h') in
      let s = a.settled k within p.0 in
      let c = lits_at rules k in
      let f = falses_undo t v e c is own in
      let off = times_none (occ_at holders e.lit) k p.1 in
      record {
        holds = omega (arith, f, s.holds);
        spare = λ l free. elim (cases_eq (var_of l) v) [
          | inl same ↦ elim (cases_eq l e.lit) [
            | inl y ↦ let z : times c l ≡ 0 = rw y (sym (h.held k e.lit) ∙ off) in omega (arith, z, f, s.holds)
            | inr n ↦ let y = other_is_negation l e.lit (same ∙ sym own) n in let z : times c l ≡ times c (neg e.lit) = ap (times c) y in omega (arith, z, f, s.holds)
          ]
          | inr n ↦ let old = s.spare l (ap (λ o. told_value o l) (sym (get_or-set_other t v (var_of l) None None n)) ∙ free) in omega (arith, f, old)
        ];
      };
}

-- what was passed over
passed_told : (t : List (Option Told)) (v : ℕ) (e : Told) (x : ℕ) → v < length t → is_told (told t (var_of x)) ≡ true → is_told (told (set t v (Some e)) (var_of x)) ≡ true
passed_told t v e x lt h = elim (cases_eq (var_of x) v) [
  | inl q ↦ ap (λ w. is_told (told (set t v (Some e)) w)) q ∙ ap is_told (get_or-set_same t v (Some e) None lt)
  | inr n ↦ ap is_told (get_or-set_other t v (var_of x) (Some e) None n) ∙ h
]

pub passed_put : (rules : List Constraint) (t : List (Option Told)) (starts : List ℕ) (v : ℕ) (e : Told) → ArePassed rules t starts → v < length t → ArePassed rules (set t v (Some e)) starts
passed_put rules t starts v e a lt = record { size = a.size; passed = λ k i below in'. passed_told t v e (get_or (lits_at rules k) i 0) lt (a.passed k i below in') }

reset_zero : (n k : ℕ) (b : Bool) → n < cond {A = ℕ} b 0 k → b ≡ false
reset_zero n k true h = absurd (omega arith)
reset_zero n k false h = refl

pub passed_undo : (rules : List Constraint) (holders : List (List ℕ)) (t : List (Option Told)) (starts starts' starts2 : List ℕ) (v : ℕ) (e : Told) → AreHeld rules holders (length t) → ArePassed rules t starts → var_of e.lit ≡ v
    → length starts' ≡ length starts → ((k : ℕ) → get_or starts' k 0 ≡ cond {A = ℕ} (ltb 0 (times (occ_at holders e.lit) k)) 0 (get_or starts k 0))
    → length starts2 ≡ length starts' → ((k : ℕ) → get_or starts2 k 0 ≡ cond {A = ℕ} (ltb 0 (times (occ_at holders (neg e.lit)) k)) 0 (get_or starts' k 0))
    → ArePassed rules (set t v None) starts2
passed_undo rules holders t starts starts' starts2 v e h a own s1 h1 s2 h2 = record {
  size = s2 ∙ s1 ∙ a.size;
  passed = λ k i below in'.
      let c = lits_at rules k in
      let x = get_or c i 0 in
      let b2 : i < cond {A = ℕ} (ltb 0 (times (occ_at holders (neg e.lit)) k)) 0 (get_or starts' k 0) = rw (← h2 k) below in
      let z2 = reset_zero i (get_or starts' k 0) (ltb 0 (times (occ_at holders (neg e.lit)) k)) b2 in
      let below' : i < get_or starts' k 0 = rw z2 at b2 in
      let b1 : i < cond {A = ℕ} (ltb 0 (times (occ_at holders e.lit) k)) 0 (get_or starts k 0) = rw (← h1 k) below' in
      let z1 = reset_zero i (get_or starts k 0) (ltb 0 (times (occ_at holders e.lit) k)) b1 in
      let old : i < get_or starts k 0 = rw z1 at b1 in
      let n1 = ltb-false 0 (times (occ_at holders e.lit) k) z1 in
      let n2 = ltb-false 0 (times (occ_at holders (neg e.lit)) k) z2 in
      let pos = times_at c i in' in
      let apart : var_of x ≢ v = λ q. elim (cases_eq x e.lit) [
        | inl y ↦ let w : times c x ≡ times c e.lit = ap (times c) y in absurd (omega (arith, w, h.held k e.lit))
        | inr n ↦ let w : times c x ≡ times c (neg e.lit) = ap (times c) (other_is_negation x e.lit (q ∙ sym own) n) in absurd (omega (arith, w, h.held k (neg e.lit)))
      ] in
      ap is_told (get_or-set_other t v (var_of x) None None apart) ∙ a.passed k i old in';
}

-- the whole
pub kept_put : (rules : List Constraint) (holders : List (List ℕ)) (t : List (Option Told)) (true_counts false_counts heavy starts : List ℕ) (q : Work ℕ) (s : List ℕ) (level space : ℕ) (true_counts' false_counts' : List ℕ) (q' : Work ℕ) (s' : List ℕ) (space' v l : ℕ)
    → IsKept rules holders t true_counts false_counts heavy starts q s level space → v < length t → told t v ≡ None → v ≡ var_of l
    → s' ≡ cond (eqb level 0) s (s ++ v ∷ []) → space ≤ space'
    → length true_counts' ≡ length true_counts → ((k : ℕ) → get_or true_counts' k 0 ≡ get_or true_counts k 0 + times (occ_at holders l) k)
    → length false_counts' ≡ length false_counts → ((k : ℕ) → get_or false_counts' k 0 ≡ get_or false_counts k 0 + times (occ_at holders (neg l)) k)
    → q'.room ≡ q.room → ((k : ℕ) → has q'.members k ≡ (has q.members k || has (occ_at holders (neg l)) k))
    → IsKept rules holders (set t v (Some (record { lit = l; level = level }))) true_counts' false_counts' heavy starts q' s' level space'
kept_put rules holders t true_counts false_counts heavy starts q s level space true_counts' false_counts' q' s' space' v l h lt none own stack room su hu sd hd sm hm =
    let e : Told = record { lit = l; level = level } in
    record {
      held = rw length-set h.held;
      counted = counted_put rules holders t true_counts false_counts true_counts' false_counts' v e h.held h.counted lt none (sym own) su sd hu hd;
      stacked = stacked_put t s s' level v e h.stacked lt none refl (sym own) stack;
      settled = settled_put rules holders t q q' v e h.held h.settled lt none (sym own) sm hm;
      heavy_rules = h.heavy_rules;
      passed = passed_put rules t starts v e h.passed lt;
      room = rw length-set (omega (arith, h.room));
    }

pub kept_undo : (rules : List Constraint) (holders : List (List ℕ)) (t : List (Option Told)) (true_counts false_counts heavy starts : List ℕ) (q : Work ℕ) (s : List ℕ) (level space : ℕ) (true_counts' false_counts' starts' starts2 : List ℕ) (q' : Work ℕ) (s' : List ℕ) (space' v : ℕ) (e : Told)
    → IsKept rules holders t true_counts false_counts heavy starts q s level space → told t v ≡ Some e
    → s ≡ s' ++ v ∷ [] → space ≤ space'
    → length true_counts' ≡ length true_counts → ((k : ℕ) → get_or true_counts' k 0 + times (occ_at holders e.lit) k ≡ get_or true_counts k 0)
    → length false_counts' ≡ length false_counts → ((k : ℕ) → get_or false_counts' k 0 + times (occ_at holders (neg e.lit)) k ≡ get_or false_counts k 0)
    → length starts' ≡ length starts → ((k : ℕ) → get_or starts' k 0 ≡ cond {A = ℕ} (ltb 0 (times (occ_at holders e.lit) k)) 0 (get_or starts k 0))
    → length starts2 ≡ length starts' → ((k : ℕ) → get_or starts2 k 0 ≡ cond {A = ℕ} (ltb 0 (times (occ_at holders (neg e.lit)) k)) 0 (get_or starts' k 0))
    → q'.room ≡ q.room → ((k : ℕ) → has q'.members k ≡ (has q.members k || has (occ_at holders e.lit) k))
    → IsKept rules holders (set t v None) true_counts' false_counts' heavy starts2 q' s' level space'
kept_undo rules holders t true_counts false_counts heavy starts q s level space true_counts' false_counts' starts' starts2 q' s' space' v e h is stack room su hu sd hd s1 h1 s2 h2 sm hm =
    let own = h.stacked.own v e is in
    record {
      held = rw length-set h.held;
      counted = counted_undo rules holders t true_counts false_counts true_counts' false_counts' v e h.held h.counted is own su sd hu hd;
      stacked = stacked_undo t s' level v e (subst (λ x. AreStacked t x level) stack h.stacked) is;
      settled = settled_undo rules holders t q q' v e h.held h.settled is own sm hm;
      heavy_rules = h.heavy_rules;
      passed = passed_undo rules holders t starts starts' starts2 v e h.held h.passed own s1 h1 s2 h2;
      room = rw length-set (omega (arith, h.room));
    }

pub top-within : (t : List (Option Told)) (s : List ℕ) (level v : ℕ) → AreStacked t (s ++ v ∷ []) level → v < length t
top-within t s level v a = elim (cases_lt v (length t)) [ inl l ↦ l | inr le ↦ absurd (top_told t s level v a (get_or_past t v None le)) ]

take_all : (s : List ℕ) (v n : ℕ) → n ≡ length s → take n (s ++ v ∷ []) ≡ s
take_all [] v n e = rw e refl
take_all (x ∷ s) v zero e = absurd (omega arith)
take_all (x ∷ s) v (suc n) e = ap (λ r. x ∷ r) (take_all s v n (omega arith))

pub last_off : (s r : List ℕ) (v n : ℕ) → s ≡ r ++ v ∷ [] → n ≡ length s → take (n - 1) s ≡ r
last_off s r v n e size =
    let long : length s ≡ length r + 1 = ap length e ∙ simp length-append in
    ap (λ x. take (n - 1) x) e ∙ take_all r v (n - 1) (omega arith)
