-- Laws of members and their places.
use Rattle.std.proofs.Common.{◌≡◌, ◌≢◌, ℕ, suc, zero, ◌+◌, ◌-◌, ◌<◌, ◌≤◌, Bool, true, false, not, ◌||◌, ◌&&◌, eqb, List, [], ◌∷◌, ◌++◌, length, get_or, map, set, inl, inr, refl, sym, ap, ◌∙◌, arith}
use Rattle.std.specs.List.{list_any, swap_remove, IsDistinct, AllByRecursion}
use Rattle.std.proofs.lemmas.Bool.{cases_Bool, cases_eq, eq-eqb, ne_eqb, eqb-true, false≢true, or_cases, or_left, or_right, false_from_ne_true}
use Rattle.std.proofs.lemmas.List.{get_or-map, length-map, length-set, length-take-le, length-append, get_or_default, get_or_read, get_or-set_same, get_or-set_other, get_or-take}
use Rattle.std.proofs.lemmas.Map.Keys.{IsDistinct-from_apart, IsDistinct-cons}
use Rattle.std.proofs.lemmas.Map.Steps.{length-le_from_distinct_below}
use Rattle.flag_set.specs.Listed.{lists}
use Rattle.flag_set.specs.Work.{number_at, with_member, IsPlaced}

-- a number that a list has stands somewhere in it
find : (xs : List ℕ) (n : ℕ) → list_any (eqb n) xs ≡ true → (k : ℕ) × (k < length xs) × (get_or xs k 0 ≡ n)
find [] n h = absurd (false≢true h)
find (x ∷ xs) n h =
    elim (or_cases (eqb n x) (list_any (eqb n) xs) h) [
      | inl e ↦ (0, omega arith, sym (eqb-true n x e))
      | inr r ↦ (let f = find xs n r in (suc f.0, omega (arith, f.1), f.2))
    ]

module _ {T : Type 0} (number : T → ℕ) where
  pub place_of : (ms : List T) (n : ℕ) → lists number ms n ≡ true → (k : ℕ) × (k < length ms) × (number_at number ms k ≡ n)
  place_of [] n h = absurd (false≢true h)
  place_of (m ∷ ms) n h =
      elim (or_cases (eqb (number m) n) (lists number ms n) h) [
        | inl e ↦ (0, omega arith, eqb-true (number m) n e)
        | inr r ↦ (let f = place_of ms n r in (suc f.0, omega (arith, f.1), f.2))
      ]

  pub lists_at : (ms : List T) (k n : ℕ) → k < length ms → number_at number ms k ≡ n → lists number ms n ≡ true
  lists_at [] k n in' is = absurd (omega arith)
  lists_at (m ∷ ms) zero n in' is = or_left (eqb (number m) n) (lists number ms n) (eq-eqb (number m) n is)
  lists_at (m ∷ ms) (suc k) n in' is = or_right (eqb (number m) n) (lists number ms n) (lists_at ms k n (omega arith) is)

  pub number_read : (ms : List T) (k : ℕ) (d : T) → k < length ms → number_at number ms k ≡ number (get_or ms k d)
  number_read ms k d in' = get_or-map number ms k d 0 in'

  pub lists_push : (ms : List T) (m : T) (n : ℕ) → lists number (ms ++ m ∷ []) n ≡ (lists number ms n || eqb (number m) n)
  lists_push [] m n = or_none (eqb (number m) n) where
    or_none : (b : Bool) → (b || false) ≡ b
    or_none true = refl
    or_none false = refl
  lists_push (x ∷ ms) m n = step (eqb (number x) n) (lists number (ms ++ m ∷ []) n) (lists number ms n) (eqb (number m) n) (lists_push ms m n) where
    step : (a b c d : Bool) → b ≡ (c || d) → (a || b) ≡ ((a || c) || d)
    step true b c d e = refl
    step false b c d e = e

  module _ (ms : List T) (places : List ℕ) (most : ℕ) (h : IsPlaced number ms places most) where
    -- no number stands twice
    pub one_place : (i j : ℕ) → i < length ms → j < length ms → number_at number ms i ≡ number_at number ms j → i ≡ j
    one_place i j a b e = sym (h.placed i a) ∙ ap (λ n. get_or places n 0) e ∙ h.placed j b

    -- what the test by places says
    pub not_past : (n : ℕ) → length places ≤ n → lists number ms n ≡ false
    not_past n le =
        false_from_ne_true (lists number ms n) (λ y. let k = place_of ms n y in let b = h.known k.0 k.1 in let e = k.2 in absurd (omega arith))

    pub not_there : (n p : ℕ) → p ≡ get_or places n 0 → length ms ≤ p → lists number ms n ≡ false
    not_there n p is le =
        false_from_ne_true (lists number ms n) (λ y.
        let k = place_of ms n y in
        let e : get_or places n 0 ≡ k.0 = ap (λ x. get_or places x 0) (sym k.2) ∙ h.placed k.0 k.1 in
        let lt = k.1 in
        absurd (omega arith))

    pub there : (n p : ℕ) → p ≡ get_or places n 0 → p < length ms → eqb (number_at number ms p) n ≡ lists number ms n
    there n p is lt = go (lists number ms n) refl where
      go : (b : Bool) → lists number ms n ≡ b → eqb (number_at number ms p) n ≡ b
      go true y =
          let k = place_of ms n y in
          let e : p ≡ k.0 = is ∙ ap (λ x. get_or places x 0) (sym k.2) ∙ h.placed k.0 k.1 in
          eq-eqb (number_at number ms p) n (ap (number_at number ms) e ∙ k.2)
      go false x = ne_eqb (number_at number ms p) n (λ e. false≢true (sym x ∙ lists_at ms p n lt e))

    same_numbers : (i j d : ℕ) → i < j → j < length ms → eqb (get_or (map number ms) i d) (get_or (map number ms) j d) ≡ false
    same_numbers i j d lt in' =
        ne_eqb (get_or (map number ms) i d) (get_or (map number ms) j d) (λ e. absurd (
        let a : i < length (map number ms) = omega (arith, length-map ms number) in
        let b : j < length (map number ms) = omega (arith, length-map ms number) in
        let same = one_place i j (omega arith) in' (get_or_default (map number ms) i 0 d a ∙ e ∙ get_or_default (map number ms) j d 0 b) in
        omega arith))

    number_below : (q : ℕ) → list_any (eqb q) (map number ms) ≡ true → q < length places
    number_below q y =
        let k = find (map number ms) q y in
        let in' : k.0 < length ms = omega (arith, k.1, length-map ms number) in
        let b = h.known k.0 in' in
        let e = k.2 in
        omega arith

    -- there are as many places as members, and one more where a number with a place is no member's
    pub few_members : length ms ≤ length places
    few_members =
        let few = length-le_from_distinct_below (map number ms) (length places)
        (IsDistinct-from_apart eqb (map number ms) (λ i j d lt in'. same_numbers i j d lt (omega (arith, length-map ms number))))
        number_below in
        omega (arith, few, length-map ms number)

    pub room_for : (n : ℕ) → n < length places → lists number ms n ≡ false → length ms < length places
    room_for n in' out =
        let few = length-le_from_distinct_below (n ∷ map number ms) (length places)
        (IsDistinct-cons eqb n (map number ms)
        (AllByRecursion-from_every (map number ms) (λ k a. ne_eqb n (get_or (map number ms) k 0) (λ e. false≢true (sym out ∙ lists_at ms k n (omega (arith, length-map ms number)) (sym e)))))
        (IsDistinct-from_apart eqb (map number ms) (λ i j d lt b. same_numbers i j d lt (omega (arith, length-map ms number)))))
        (λ q y. elim (or_cases (eqb q n) (list_any (eqb q) (map number ms)) y) [ inl e ↦ (let same = eqb-true q n e in omega arith) | inr r ↦ number_below q r ]) in
        omega (arith, few, length-map ms number) where
          AllByRecursion-from_every : (xs : List ℕ) → ((k : ℕ) → k < length xs → eqb n (get_or xs k 0) ≡ false) → AllByRecursion (λ y. eqb n y ≡ false) xs
          AllByRecursion-from_every [] f = tt
          AllByRecursion-from_every (x ∷ xs) f = (f 0 (omega arith), AllByRecursion-from_every xs (λ k a. f (suc k) (omega arith)))

-- what the table was read to have at a number
pub place_read : (places : List ℕ) (at n p : ℕ) → at ≡ n → at < length places → p ≡ get_or places at p → p ≡ get_or places n 0
place_read places at n p same in' read = get_or_read places at p in' read 0 ∙ ap (λ x. get_or places x 0) same

-- a list whose member at one place went, and whose last member came to that place
module _ {T : Type 0} (number : T → ℕ) where
  pub number_push_old : (ms : List T) (m : T) (k : ℕ) → k < length ms → number_at number (ms ++ m ∷ []) k ≡ number_at number ms k
  number_push_old [] m k in' = absurd (omega arith)
  number_push_old (x ∷ ms) m zero in' = refl
  number_push_old (x ∷ ms) m (suc k) in' = number_push_old ms m k (omega arith)

  pub number_push_new : (ms : List T) (m : T) (k : ℕ) → k ≡ length ms → number_at number (ms ++ m ∷ []) k ≡ number m
  number_push_new [] m zero e = refl
  number_push_new [] m (suc k) e = absurd (omega arith)
  number_push_new (x ∷ ms) m zero e = absurd (omega arith)
  number_push_new (x ∷ ms) m (suc k) e = number_push_new ms m k (omega arith)

  length-swap_out : (ms : List T) (i : ℕ) (d : T) → i < length ms → length (swap_remove ms i d) + 1 ≡ length ms
  length-swap_out ms i d in' =
      omega (arith, length-take-le (length ms - 1) (set ms i (get_or ms (length ms - 1) d)) (omega (arith, length-set ms i (get_or ms (length ms - 1) d))))

  number_swap_same : (ms : List T) (i k : ℕ) (d : T) → i < length ms → k + 1 < length ms → k ≢ i → number_at number (swap_remove ms i d) k ≡ number_at number ms k
  number_swap_same ms i k d in' lt ne =
      let long = length-swap_out ms i d in' in
      number_read number (swap_remove ms i d) k d (omega arith)
      ∙ ap number (get_or-take (length ms - 1) (set ms i (get_or ms (length ms - 1) d)) k d (omega arith) ∙ get_or-set_other ms i k (get_or ms (length ms - 1) d) d ne)
      ∙ sym (number_read number ms k d (omega arith))

  number_swap_here : (ms : List T) (i : ℕ) (d : T) → i + 1 < length ms → number_at number (swap_remove ms i d) i ≡ number_at number ms (length ms - 1)
  number_swap_here ms i d lt =
      let long = length-swap_out ms i d (omega arith) in
      number_read number (swap_remove ms i d) i d (omega arith)
      ∙ ap number (get_or-take (length ms - 1) (set ms i (get_or ms (length ms - 1) d)) i d (omega arith) ∙ get_or-set_same ms i (get_or ms (length ms - 1) d) d (omega arith))
      ∙ sym (number_read number ms (length ms - 1) d (omega arith))

  module _ (ms : List T) (places : List ℕ) (most : ℕ) (h : IsPlaced number ms places most) where
    -- a member comes
    pub placed_push : (m : T) (n len most' : ℕ) → n ≡ number m → len ≡ length ms → n < length places → lists number ms n ≡ false → most ≤ most' → IsPlaced number (ms ++ m ∷ []) (set places n len) most'
    placed_push m n len most' same size in' out more = rw size (record {
      known = λ k a. rw (length-set places n (length ms)) (elim (cases_eq k (length ms)) [
        | inl e ↦ omega (arith, number_push_new ms m k e)
        | inr d ↦ (let b : k < length ms = omega (arith, length-push) in omega (arith, number_push_old ms m k b, h.known k b))
      ]);
      placed = λ k a. elim (cases_eq k (length ms)) [
        | inl e ↦ rw (number_push_new ms m k e, ← same, get_or-set_same places n (length ms) 0 in') (sym e)
        | inr d ↦
            (let b : k < length ms = omega (arith, length-push) in
            let other : number_at number ms k ≢ n = λ e. false≢true (sym out ∙ lists_at number ms k n b e) in
            rw (number_push_old ms m k b, get_or-set_other places n (number_at number ms k) (length ms) 0 other) (h.placed k b))
      ];
      room = rw (length-set places n (length ms)) (omega (arith, h.room));
      few = rw (length-set places n (length ms)) h.few;
    }) where
      length-push : length (ms ++ m ∷ []) ≡ length ms + 1
      length-push = length-append ms (m ∷ [])

    -- a member goes
    module _ (m : T) (p : ℕ) (in' : p < length ms) where
      pub placed_out : (l most' : ℕ) → l ≡ number_at number ms (length ms - 1) → most ≤ most' → IsPlaced number (swap_remove ms p m) (set places l p) most'
      placed_out l most' is more =
          let long = length-swap_out ms p m in' in
          record {
            known = λ k a. rw (length-set places l p) (elim (cases_eq k p) [
              | inl e ↦ rw e (omega (arith, number_swap_here ms p m (omega arith), h.known (length ms - 1) (omega arith)))
              | inr d ↦ omega (arith, number_swap_same ms p k m in' (omega arith) d, h.known k (omega arith))
            ]);
            placed = λ k a. elim (cases_eq k p) [
              | inl e ↦ rw (e, number_swap_here ms p m (omega arith), ← is) (get_or-set_same places l p 0 (omega (arith, h.known (length ms - 1) (omega arith))))
              | inr d ↦
                  (let b : k + 1 < length ms = omega arith in
                  let other : number_at number ms k ≢ l = λ e. absurd (let same = one_place number ms places most h k (length ms - 1) (omega arith) (omega arith) (e ∙ is) in omega arith) in
                  rw (number_swap_same ms p k m in' b d, get_or-set_other places l (number_at number ms k) p 0 other) (h.placed k (omega arith)))
            ];
            room = rw (length-set places l p) (omega (arith, h.room));
            few = rw (length-set places l p) h.few;
          }

      stays : (n : ℕ) → lists number (swap_remove ms p m) n ≡ true → (lists number ms n ≡ true) × (number_at number ms p ≢ n)
      stays n y =
          let f = place_of number (swap_remove ms p m) n y in
          let long = length-swap_out ms p m in' in
          let below : f.0 + 1 < length ms = omega (arith, f.1) in
          elim (cases_eq f.0 p) [
            | inl e ↦
                (let here : p + 1 < length ms = omega arith in
                let is : number_at number ms (length ms - 1) ≡ n = sym (number_swap_here ms p m here) ∙ ap (number_at number (swap_remove ms p m)) (sym e) ∙ f.2 in
                (lists_at number ms (length ms - 1) n (omega arith) is, λ q. absurd (let same = one_place number ms places most h p (length ms - 1) in' (omega arith) (q ∙ sym is) in omega arith)))
            | inr d ↦
                (let is : number_at number ms f.0 ≡ n = sym (number_swap_same ms p f.0 m in' below d) ∙ f.2 in
                (lists_at number ms f.0 n (omega arith) is, λ q. d (one_place number ms places most h f.0 p (omega arith) in' (is ∙ sym q))))
          ]

      kept : (n : ℕ) → lists number ms n ≡ true → number_at number ms p ≢ n → lists number (swap_remove ms p m) n ≡ true
      kept n y ne =
          let f = place_of number ms n y in
          let long = length-swap_out ms p m in' in
          let lt = f.1 in
          let other : f.0 ≢ p = λ e. ne (ap (number_at number ms) (sym e) ∙ f.2) in
          elim (cases_eq f.0 (length ms - 1)) [
            | inl e ↦
                (let off : p ≢ length ms - 1 = λ q. other (e ∙ sym q) in
                let here : p + 1 < length ms = omega arith in
                lists_at number (swap_remove ms p m) p n (omega arith) (number_swap_here ms p m here ∙ ap (number_at number ms) (sym e) ∙ f.2))
            | inr d ↦
                (let below : f.0 + 1 < length ms = omega arith in
                lists_at number (swap_remove ms p m) f.0 n (omega arith) (number_swap_same ms p f.0 m in' below other ∙ f.2))
          ]

      pub lists_out : (n : ℕ) → lists number (swap_remove ms p m) n ≡ (lists number ms n && not (eqb (number_at number ms p) n))
      lists_out n =
          decided (lists number (swap_remove ms p m) n) (lists number ms n) (eqb (number_at number ms p) n)
          (λ y. let r = stays n y in (r.0, ne_eqb (number_at number ms p) n r.1))
          (λ y e. kept n y (λ q. false≢true (sym e ∙ eq-eqb (number_at number ms p) n q))) where
            decided : (a b c : Bool) → (a ≡ true → (b ≡ true) × (c ≡ false)) → (b ≡ true → c ≡ false → a ≡ true) → a ≡ (b && not c)
            decided true b c to from = let r = to refl in rw (r.0, r.1) refl
            decided false true true to from = refl
            decided false true false to from = from refl refl
            decided false false c to from = refl

-- what the code reads of the member at a place
pub there_read : {T : Type 0} (number : T → ℕ) (ms : List T) (places : List ℕ) (most : ℕ) (at n p v : ℕ) (x : T) → IsPlaced number ms places most → at ≡ n → p ≡ get_or places n 0 → p < length ms → x ≡ get_or ms p x → v ≡ number x → eqb v at ≡ lists number ms n
there_read number ms places most at n p v x h same is in' read value =
    let e : v ≡ number_at number ms p = value ∙ ap number read ∙ sym (number_read number ms p x in') in
    rw (e, same) (there number ms places most h n p is in')

-- a member that is listed, and what the table has at its number
pub record Spot {T : Type 0} (number : T → ℕ) (ms : List T) (places : List ℕ) (n p : ℕ) : Type 0 where
  pub within : p < length ms
  pub here : number_at number ms p ≡ n
  pub last : number_at number ms (length ms - 1) < length places

pub spot_known : {T : Type 0} (number : T → ℕ) (ms : List T) (places : List ℕ) (most n : ℕ) → IsPlaced number ms places most → lists number ms n ≡ true → n < length places
spot_known number ms places most n h y =
    let f = place_of number ms n y in
    let b = h.known f.0 f.1 in
    let e = f.2 in
    omega arith

pub spot_of : {T : Type 0} (number : T → ℕ) (ms : List T) (places : List ℕ) (most n at p : ℕ) → IsPlaced number ms places most → lists number ms n ≡ true → at ≡ n → p ≡ get_or places at p → Spot number ms places n p
spot_of number ms places most n at p h y same read =
    let f = place_of number ms n y in
    let known = spot_known number ms places most n h y in
    let e : p ≡ f.0 = place_read places at n p same (omega arith) read ∙ ap (λ x. get_or places x 0) (sym f.2) ∙ h.placed f.0 f.1 in
    record {
      within = rw e f.1;
      here = ap (number_at number ms) e ∙ f.2;
      last = h.known (length ms - 1) (let a = f.1 in omega arith);
    }

-- what the code reads of the last member
pub last_read : {T : Type 0} (number : T → ℕ) (ms : List T) (k v : ℕ) (x : T) → k + 1 ≡ length ms → x ≡ get_or ms k x → v ≡ number x → v ≡ number_at number ms (length ms - 1)
last_read number ms k v x is read value =
    let e : length ms - 1 ≡ k = omega arith in
    value ∙ ap number read ∙ rw e (sym (number_read number ms k x (omega arith)))

-- the member that goes may be named by any place where its number stands
pub out_by_place : {T : Type 0} (number : T → ℕ) (ms : List T) (places : List ℕ) (most p k : ℕ) (m r : T) → IsPlaced number ms places most → Spot number ms places (number m) p → k < length ms → number (get_or ms k m) ≡ number m → swap_remove ms p r ≡ swap_remove ms k m
out_by_place number ms places most p k m r h spot in' is =
    let same : p ≡ k = one_place number ms places most h p k spot.within in' (spot.here ∙ sym is ∙ sym (number_read number ms k m in')) in
    let last : get_or ms (length ms - 1) r ≡ get_or ms (length ms - 1) m = get_or_default ms (length ms - 1) r m (omega arith) in
    rw (same, last) refl

-- what a list holds with one member more
pub lists_with : {T : Type 0} (number : T → ℕ) (ms : List T) (m : T) (n : ℕ) → lists number (with_member number ms m) n ≡ (lists number ms n || eqb (number m) n)
lists_with number ms m n =
    elim (cases_Bool (lists number ms (number m))) [
      | inl y ↦ rw y (elim (cases_eq (number m) n) [ inl e ↦ rw (eq-eqb (number m) n e, ← e, y) refl | inr d ↦ rw (ne_eqb (number m) n d) (sym (or_none (lists number ms n))) ])
      | inr x ↦ rw x (lists_push number ms m n)
    ] where
      or_none : (b : Bool) → (b || false) ≡ b
      or_none true = refl
      or_none false = refl
