-- The first literal of a seen trail that makes a member of the group true: how it stays, comes and
-- goes.
use Rattle.std.proofs.Common.{ℕ, suc, zero, ◌*◌, ◌%◌, ◌/◌, ◌≡◌, ◌≢◌, ◌<◌, ◌≤◌, ◌&&◌, Bool, true, false, not, cond, eqb, leb, List, [], ◌∷◌, ◌++◌, take, Option, Some, None, inl, inr, refl, sym, ap, ◌∙◌, subst, arith}
use Rattle.std.specs.Prelude.{find, filter}
use Rattle.std.specs.List.{list_all}
use Rattle.std.proofs.lemmas.Bool.{and_parts, and_from, cases_Bool, cases_eq, not-true, eq-eqb, ne_eqb, eqb-true, eqb-false, leb-true, le-leb, lt-leb, false≢true}
use Rattle.std.proofs.lemmas.List.Folds.{list_all-append}
use Rattle.sat_terms.specs.Literal.{has, neg, pos_lit, var_of}
use Rattle.user_propagator.specs.declared.seen.Seen.{Seen}
use Rattle.user_propagator.specs.Board.{trail_value, within}
use Rattle.group_propagator.specs.Group.{is_true_member, none_true, leads}

both_ways : {A : Type 0} (b : Bool) → b ≡ true → b ≡ false → A
both_ways b y n = absurd (false≢true (sym n ∙ y))

-- what holds of all holds of those that a test keeps
pub all_filter : {T : Type 0} (p q : T → Bool) (xs : List T) → list_all p xs ≡ true → list_all p (filter q xs) ≡ true
all_filter p q [] h = refl
all_filter p q (x ∷ xs) h =
    let b = and_parts (p x) (list_all p xs) h in
    elim (cases_Bool (q x)) [
      | inl y ↦ rw y (and_from (p x) (list_all p (filter q xs)) b.0 (all_filter p q xs b.1))
      | inr n ↦ rw n (all_filter p q xs b.1)
    ]

module _ (group : List ℕ) where
  -- the head of a trail on which a literal is chosen
  record IsHead (c x : Seen) (xs : List Seen) : Type 0 where
    same : x.lit ≡ c.lit
    level : x.level ≡ c.level
    late : list_all (λ e. leb c.level e.level) xs ≡ true

  record IsBehind (c x : Seen) (xs : List Seen) : Type 0 where
    other : is_true_member group x.lit ≡ false
    apart : x.lit ≢ neg c.lit
    rest : leads group c xs ≡ true

  by_head : (c x : Seen) (xs : List Seen) (G : Type 0) → leads group c (x ∷ xs) ≡ true → (is_true_member group x.lit ≡ true → IsHead c x xs → G) → (IsBehind c x xs → G) → G
  by_head c x xs G h now later =
      elim (cases_Bool (is_true_member group x.lit)) [
        | inl y ↦
            let a = and_parts (eqb x.lit c.lit && eqb x.level c.level) (list_all (λ e. leb c.level e.level) xs) (rw y at h) in
            let b = and_parts (eqb x.lit c.lit) (eqb x.level c.level) a.0 in
            now y (record { same = eqb-true x.lit c.lit b.0; level = eqb-true x.level c.level b.1; late = a.1 })
        | inr n ↦
            let a = and_parts (not (eqb x.lit (neg c.lit))) (leads group c xs) (rw n at h) in
            later (record { other = n; apart = eqb-false x.lit (neg c.lit) (not-true (eqb x.lit (neg c.lit)) a.0); rest = a.1 })
      ]

  head_leads : (c x : Seen) (xs : List Seen) → is_true_member group x.lit ≡ true → IsHead c x xs → leads group c (x ∷ xs) ≡ true
  head_leads c x xs y h = rw (y, eq-eqb x.lit c.lit h.same, eq-eqb x.level c.level h.level) h.late

  behind_leads : (c x : Seen) (xs : List Seen) → IsBehind c x xs → leads group c (x ∷ xs) ≡ true
  behind_leads c x xs h = rw (h.other, ne_eqb x.lit (neg c.lit) h.apart) h.rest

  -- the chosen literal makes a member true, and is true itself
  pub chosen_member : (c : Seen) (seen : List Seen) → leads group c seen ≡ true → is_true_member group c.lit ≡ true
  chosen_member c [] h = absurd (false≢true h)
  chosen_member c (x ∷ xs) h =
      by_head c x xs (is_true_member group c.lit ≡ true) h
      (λ y now. subst (λ l. is_true_member group l ≡ true) now.same y) (λ later. chosen_member c xs later.rest)

  pub chosen_value : (c : Seen) (seen : List Seen) → leads group c seen ≡ true → trail_value seen c.lit ≡ Some true
  chosen_value c [] h = absurd (false≢true h)
  chosen_value c (x ∷ xs) h =
      by_head c x xs (trail_value (x ∷ xs) c.lit ≡ Some true) h
      (λ y now. rw (eq-eqb x.lit c.lit now.same) refl)
      (λ later.
      let other : x.lit ≢ c.lit = λ e. both_ways (is_true_member group x.lit) (subst (λ l. is_true_member group l ≡ true) (sym e) (chosen_member c xs later.rest)) later.other in
      rw (ne_eqb x.lit c.lit other, ne_eqb x.lit (neg c.lit) later.apart) (chosen_value c xs later.rest))

  -- a literal is told
  pub none_put : (seen : List Seen) (e : Seen) → none_true group seen ≡ true → is_true_member group e.lit ≡ false → none_true group (seen ++ e ∷ []) ≡ true
  none_put seen e h n =
      let p : Seen → Bool = λ x. not (is_true_member group x.lit) in
      list_all-append p seen (e ∷ []) ∙ and_from (list_all p seen) (list_all p (e ∷ [])) h (rw n refl)

  pub chosen_put : (c e : Seen) (seen : List Seen) → none_true group seen ≡ true → is_true_member group e.lit ≡ true → e.lit ≡ c.lit → e.level ≡ c.level → trail_value seen c.lit ≡ None → leads group c (seen ++ e ∷ []) ≡ true
  chosen_put c e [] h y same level free = head_leads c e [] y (record { same = same; level = level; late = refl })
  chosen_put c e (x ∷ xs) h y same level free =
      let b = and_parts (not (is_true_member group x.lit)) (none_true group xs) h in
      let n : is_true_member group x.lit ≡ false = not-true (is_true_member group x.lit) b.0 in
      let fresh = unseen_head (eqb x.lit c.lit) (eqb x.lit (neg c.lit)) (trail_value xs c.lit) free in
      behind_leads c x (xs ++ e ∷ []) (record { other = n; apart = eqb-false x.lit (neg c.lit) fresh.0; rest = chosen_put c e xs b.1 y same level fresh.1 }) where
        unseen_head : (a b : Bool) (r : Option Bool) → cond a (Some true) (cond b (Some false) r) ≡ None → (b ≡ false) × (r ≡ None)
        unseen_head true b r q = absurd (let z : Some true ≡ None = q in cc)
        unseen_head false true r q = absurd (let z : Some false ≡ None = q in cc)
        unseen_head false false r q = (refl, q)

  pub chosen_stays : (c e : Seen) (seen : List Seen) → leads group c seen ≡ true → c.level ≤ e.level → leads group c (seen ++ e ∷ []) ≡ true
  chosen_stays c e [] h le = absurd (false≢true h)
  chosen_stays c e (x ∷ xs) h le =
      let late : Seen → Bool = λ z. leb c.level z.level in
      by_head c x xs (leads group c (x ∷ xs ++ e ∷ []) ≡ true) h
      (λ y now. head_leads c x (xs ++ e ∷ []) y (record { same = now.same; level = now.level; late = list_all-append late xs (e ∷ []) ∙ and_from (list_all late xs) (list_all late (e ∷ [])) now.late (rw (le-leb c.level e.level le) refl) }))
      (λ later. behind_leads c x (xs ++ e ∷ []) (record { other = later.other; apart = later.apart; rest = chosen_stays c e xs later.rest le }))

  -- levels are taken back
  late_gone : (n level : ℕ) (seen : List Seen) → list_all (λ e. leb n e.level) seen ≡ true → level < n → within level seen ≡ []
  late_gone n level [] h lt = refl
  late_gone n level (x ∷ xs) h lt =
      let b = and_parts (leb n x.level) (list_all (λ e. leb n e.level) xs) h in
      let high = leb-true n x.level b.0 in
      let above : level < x.level = omega arith in
      rw (lt-leb x.level level above) (late_gone n level xs b.1 lt)

  pub chosen_gone : (c : Seen) (level : ℕ) (seen : List Seen) → leads group c seen ≡ true → level < c.level → none_true group (within level seen) ≡ true
  chosen_gone c level [] h lt = refl
  chosen_gone c level (x ∷ xs) h lt =
      by_head c x xs (none_true group (within level (x ∷ xs)) ≡ true) h
      (λ y now.
      let same = now.level in
      let above : level < x.level = omega arith in
      rw (lt-leb x.level level above, late_gone c.level level xs now.late lt) refl)
      (λ later.
      elim (cases_Bool (leb x.level level)) [
        | inl y ↦ rw (y, later.other) (chosen_gone c level xs later.rest lt)
        | inr n ↦ rw n (chosen_gone c level xs later.rest lt)
      ])

  pub chosen_kept : (c : Seen) (level : ℕ) (seen : List Seen) → leads group c seen ≡ true → c.level ≤ level → leads group c (within level seen) ≡ true
  chosen_kept c level [] h le = h
  chosen_kept c level (x ∷ xs) h le =
      by_head c x xs (leads group c (within level (x ∷ xs)) ≡ true) h
      (λ y now.
      let same = now.level in
      let low : x.level ≤ level = omega arith in
      rw (le-leb x.level level low) (head_leads c x (within level xs) y (record { same = now.same; level = now.level; late = all_filter (λ e. leb c.level e.level) (λ e. leb e.level level) xs now.late })))
      (λ later.
      let rest = chosen_kept c level xs later.rest le in
      elim (cases_Bool (leb x.level level)) [
        | inl y ↦ rw y (behind_leads c x (within level xs) (record { other = later.other; apart = later.apart; rest = rest }))
        | inr n ↦ rw n rest
      ])

  -- the literal that is found first is the chosen one
  pub found_is : (c e : Seen) (k : ℕ) (seen : List Seen) → leads group c seen ≡ true → find (λ x. is_true_member group x.lit) (take k seen) ≡ Some e → e.lit ≡ c.lit
  found_is c e zero seen h found = absurd (let z : None ≡ Some e = found in cc)
  found_is c e (suc k) [] h found = absurd (false≢true h)
  found_is c e (suc k) (x ∷ xs) h found =
      by_head c x xs (e.lit ≡ c.lit) h
      (λ y now. let z : Some x ≡ Some e = rw y at found in let same : x ≡ e = cc in ap (λ s. s.lit) (sym same) ∙ now.same)
      (λ later. found_is c e k xs later.rest (rw later.other at found))

  pub chosen_found : (c : Seen) (seen : List Seen) → leads group c seen ≡ true → (e : Seen) × (find (λ x. is_true_member group x.lit) seen ≡ Some e) × (e.lit ≡ c.lit)
  chosen_found c [] h = absurd (false≢true h)
  chosen_found c (x ∷ xs) h =
      by_head c x xs ((e : Seen) × (find (λ s. is_true_member group s.lit) (x ∷ xs) ≡ Some e) × (e.lit ≡ c.lit)) h
      (λ y now. (x, rw y refl, now.same))
      (λ later. let r = chosen_found c xs later.rest in (r.0, rw later.other r.1, r.2))

  pub none_found : (e : Seen) (k : ℕ) (seen : List Seen) → none_true group seen ≡ true → find (λ x. is_true_member group x.lit) (take k seen) ≡ Some e → ⊥
  none_found e zero seen h found = let z : None ≡ Some e = found in cc
  none_found e (suc k) [] h found = let z : None ≡ Some e = found in cc
  none_found e (suc k) (x ∷ xs) h found =
      let b = and_parts (not (is_true_member group x.lit)) (none_true group xs) h in
      none_found e k xs b.1 (rw (not-true (is_true_member group x.lit) b.0) at found)

  -- where no literal is chosen, no member is true
  pos_member : (u : ℕ) → has group u ≡ true → is_true_member group (pos_lit u) ≡ true
  unfolding pos_lit var_of
  pos_member u m = and_from (eqb (2 * u % 2) 0) (has group (2 * u / 2)) (eq-eqb (2 * u % 2) 0 (omega arith)) (subst (λ v. has group v ≡ true) (let z : u ≡ 2 * u / 2 = omega arith in z) m)

  pub none_holds : (u : ℕ) (seen : List Seen) → none_true group seen ≡ true → has group u ≡ true → trail_value seen (pos_lit u) ≡ Some true → ⊥
  none_holds u [] h m value = let z : None ≡ Some true = value in cc
  none_holds u (x ∷ xs) h m value =
      let b = and_parts (not (is_true_member group x.lit)) (none_true group xs) h in
      elim (cases_eq x.lit (pos_lit u)) [
        | inl e ↦ both_ways (is_true_member group x.lit) (subst (λ l. is_true_member group l ≡ true) (sym e) (pos_member u m)) (not-true (is_true_member group x.lit) b.0)
        | inr n ↦
            elim (cases_eq x.lit (neg (pos_lit u))) [
              | inl e ↦ let z : Some false ≡ Some true = rw (ne_eqb x.lit (pos_lit u) n, eq-eqb x.lit (neg (pos_lit u)) e) at value in cc
              | inr o ↦ none_holds u xs b.1 m (rw (ne_eqb x.lit (pos_lit u) n, ne_eqb x.lit (neg (pos_lit u)) o) at value)
            ]
      ]
