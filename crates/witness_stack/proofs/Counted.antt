-- Laws of the counts.
use Rattle.std.proofs.Common.{◌≡◌, ◌≢◌, ℕ, suc, zero, ◌+◌, ◌-◌, ◌<◌, ◌≤◌, ◌^◌, Bool, true, false, cond, not, ◌||◌, eqb, List, [], ◌∷◌, ◌++◌, length, get_or, set, take, drop, count_by, inl, inr, refl, sym, ap, ◌∙◌, arith, length-take}
use Rattle.std.specs.List.{remove, list_all}
use Rattle.std.proofs.lemmas.Bool.{cases_Bool, cases_eq, cases_lt, or_cases, or_left, or_right, or_parts, and_parts, and_from, false≢true, eqb-true, eq-eqb, ne_eqb, not-true}
use Rattle.std.proofs.lemmas.List.{get_or-set_same, get_or-set_other, get_or_past, get_or_read, take-append-drop}
use Rattle.std.proofs.lemmas.List.Sums.{sum_by-cons, sum_by-set, get_or-le-sum_by, count_by_more_yes, count_by_more_no}
use Rattle.std.proofs.lemmas.List.Folds.{list_any_more}
use Rattle.sat_terms.specs.Literal.{has, neg}
use Rattle.redundancy.specs.Redundancy.{Entry, Clean, entry, is_clean, touches}
use Rattle.redundancy.proofs.Touching.{Clean-from_test, is_clean-from}
use Rattle.witness_stack.specs.Counts.{count_at, count_sum, times, witness_count}

pub times-cons : (x : ℕ) (xs : List ℕ) (l : ℕ) → times (x ∷ xs) l ≡ cond (eqb x l) 1 0 + times xs l
times-cons x xs l = sum_by-cons (λ y. cond (eqb y l) 1 0) x xs

-- one literal more
pub times_more : (xs : List ℕ) (i x l : ℕ) → i < length xs → x ≡ get_or xs i x → times (take (i + 1) xs) l ≡ times (take i xs) l + cond (eqb x l) 1 0
times_more xs i x l in' is =
    elim (cases_eq x l) [
      | inl e ↦ rw (eq-eqb x l e) (count_by_more_yes (λ y. eqb y l) xs i x in' (rw (← is) (eq-eqb x l e)))
      | inr n ↦ rw (ne_eqb x l n) (count_by_more_no (λ y. eqb y l) xs i x in' (rw (← is) (ne_eqb x l n)) ∙ sym (let z : times (take i xs) l + 0 ≡ times (take i xs) l = omega arith in z))
    ]

-- a front counts no more than the whole
pub times_front : (n : ℕ) (xs : List ℕ) (l : ℕ) → times (take n xs) l ≤ times xs l
times_front zero xs l = omega arith
times_front (suc n) [] l = omega arith
times_front (suc n) (x ∷ xs) l = omega (arith, times-cons x (take n xs) l, times-cons x xs l, times_front n xs l)

-- a literal that a list lacks is counted 0 times
pub times_none : (xs : List ℕ) (l : ℕ) → has xs l ≡ false → times xs l ≡ 0
times_none [] l h = refl
times_none (x ∷ xs) l h =
    let p = or_parts (eqb x l) (has xs l) h in
    omega (arith, times-cons x xs l, ap (λ b. cond {A = ℕ} b 1 0) p.0, times_none xs l p.1)

pub times_some : (xs : List ℕ) (l : ℕ) → has xs l ≡ true → 0 < times xs l
times_some [] l h = absurd (false≢true h)
times_some (x ∷ xs) l h =
    elim (or_cases (eqb x l) (has xs l) h) [
      | inl e ↦ let c : times (x ∷ xs) l ≡ 1 + times xs l = times-cons x xs l ∙ rw e refl in omega arith
      | inr i ↦ omega (arith, times-cons x xs l, times_some xs l i)
    ]

-- one count changes
pub count_raised : (m : List ℕ) (x l : ℕ) → x < length m → count_at (set m x (count_at m x + 1)) l ≡ count_at m l + cond (eqb x l) 1 0
count_raised m x l in' =
    elim (cases_eq x l) [
      | inl e ↦ rw (eq-eqb x l e, ← e) (get_or-set_same m x (count_at m x + 1) 0 in')
      | inr n ↦ rw (ne_eqb x l n) (get_or-set_other m x l (count_at m x + 1) 0 (λ e. n (sym e)) ∙ sym (let z : count_at m l + 0 ≡ count_at m l = omega arith in z))
    ]

pub count_lowered : (m : List ℕ) (x l : ℕ) → x < length m → 0 < count_at m x → count_at (set m x (count_at m x - 1)) l + cond (eqb x l) 1 0 ≡ count_at m l
count_lowered m x l in' some =
    elim (cases_eq x l) [
      | inl e ↦ rw (eq-eqb x l e, ← e, get_or-set_same m x (count_at m x - 1) 0 in') (omega arith)
      | inr n ↦ rw (ne_eqb x l n, get_or-set_other m x l (count_at m x - 1) 0 (λ e. n (sym e))) (omega arith)
    ]

pub count_within : (m : List ℕ) (x : ℕ) → 0 < count_at m x → x < length m
count_within m x some = elim (cases_lt x (length m)) [ inl a ↦ a | inr b ↦ absurd (let z = get_or_past m x 0 b in omega arith) ]

-- the counts of a stack
pub witness_count_push : (s : List Entry) (e : Entry) (l : ℕ) → witness_count (s ++ e ∷ []) l ≡ witness_count s l + times e.witness l
witness_count_push [] e l = omega arith
witness_count_push (x ∷ s) e l = omega (arith, witness_count_push s e l)

pub witness_count_remove : (s : List Entry) (k l : ℕ) → k < length s → witness_count (remove s k) l + times (entry s k).witness l ≡ witness_count s l
witness_count_remove [] k l in' = absurd (omega arith)
witness_count_remove (x ∷ s) zero l in' = omega arith
witness_count_remove (x ∷ s) (suc k) l in' = omega (arith, witness_count_remove s k l (omega arith))

-- literals are clean where no witness holds a negation
abbrev pub AllFree : List ℕ → List Entry → Type 0
AllFree c s = (l : ℕ) → has c l ≡ true → witness_count s (neg l) ≡ 0

pub Clean-from_free : (c : List ℕ) (s : List Entry) → AllFree c s → Clean c s
Clean-from_free c [] h = tt
Clean-from_free c (e ∷ s) h = (
  (λ l i.
      elim (cases_Bool (has e.witness (neg l))) [
        | inl y ↦ absurd (let z = h l i in let p = times_some e.witness (neg l) y in omega arith)
        | inr n ↦ n
      ]),
  Clean-from_free c s (λ l i. let z = h l i in omega arith),
)

pub free-from_Clean : (c : List ℕ) (s : List Entry) → Clean c s → AllFree c s
free-from_Clean c [] h l i = refl
free-from_Clean c (e ∷ s) h l i = omega (arith, times_none e.witness (neg l) (h.0 l i), free-from_Clean c s h.1 l i)

free_test : (m : List ℕ) (c : List ℕ) (s : List Entry) → ((l : ℕ) → count_at m l ≡ witness_count s l) → list_all (λ l. eqb (count_at m (neg l)) 0) c ≡ true → AllFree c s
free_test m [] s are h l i = absurd (false≢true i)
free_test m (x ∷ c) s are h l i =
    let q = and_parts (eqb (count_at m (neg x)) 0) (list_all (λ l. eqb (count_at m (neg l)) 0) c) h in
    elim (or_cases (eqb x l) (has c l) i) [
      | inl e ↦ rw (← eqb-true x l e) (sym (are (neg x)) ∙ eqb-true (count_at m (neg x)) 0 q.0)
      | inr j ↦ free_test m c s are q.1 l j
    ]

test_free : (m : List ℕ) (c : List ℕ) (s : List Entry) → ((l : ℕ) → count_at m l ≡ witness_count s l) → AllFree c s → list_all (λ l. eqb (count_at m (neg l)) 0) c ≡ true
test_free m [] s are h = refl
test_free m (x ∷ c) s are h =
    and_from (eqb (count_at m (neg x)) 0) (list_all (λ l. eqb (count_at m (neg l)) 0) c)
    (eq-eqb (count_at m (neg x)) 0 (are (neg x) ∙ h x (or_left (eqb x x) (has c x) (eq-eqb x x refl))))
    (test_free m c s are (λ l i. h l (or_right (eqb x l) (has c l) i)))

-- the test by counts
pub clean_by_counts : (m : List ℕ) (c : List ℕ) (s : List Entry) → ((l : ℕ) → count_at m l ≡ witness_count s l) → list_all (λ l. eqb (count_at m (neg l)) 0) c ≡ is_clean c s
clean_by_counts m c s are = same (list_all (λ l. eqb (count_at m (neg l)) 0) c) (is_clean c s)
    (λ h. is_clean-from c s (Clean-from_free c s (free_test m c s are h)))
    (λ h. test_free m c s are (free-from_Clean c s (Clean-from_test c s h))) where
      same : (a b : Bool) → (a ≡ true → b ≡ true) → (b ≡ true → a ≡ true) → a ≡ b
      same true b to from = sym (to refl)
      same false true to from = from refl
      same false false to from = refl

-- the steps of the loops, as the code reads them
pub has_here : (xs : List ℕ) (i x : ℕ) → i < length xs → x ≡ get_or xs i x → has xs x ≡ true
has_here [] i x in' is = absurd (omega arith)
has_here (y ∷ xs) zero x in' is = or_left (eqb y x) (has xs x) (eq-eqb y x (sym is))
has_here (y ∷ xs) (suc i) x in' is = or_right (eqb y x) (has xs x) (has_here xs i x (omega arith) is)

pub room_more : (xs : List ℕ) (i x low high : ℕ) → i < length xs → x ≡ get_or xs i x → low ≤ high → x < high → ((l : ℕ) → has (take i xs) l ≡ true → l < low) → (l : ℕ) → has (take (i + 1) xs) l ≡ true → l < high
room_more xs i x low high in' is up here before l h =
    let more : has (take (i + 1) xs) l ≡ (has (take i xs) l || eqb x l) = list_any_more (λ y. eqb y l) xs i x in' ∙ rw (← is) refl in
    elim (or_cases (has (take i xs) l) (eqb x l) (sym more ∙ h)) [
      | inl a ↦ omega (arith, before l a)
      | inr e ↦ let same = eqb-true x l e in omega (arith, same)
    ]

module _ (m m0 xs : List ℕ) (i x : ℕ) (in' : i < length xs) (is : x ≡ get_or xs i x) where
  pub raised_room : ((l : ℕ) → has xs l ≡ true → l < length m0) → length m ≡ length m0 → x < length m
  raised_room room long = let h = room x (has_here xs i x in' is) in omega (arith, h, long)

  pub raised_fits : (v : ℕ) → x < length m → v ≡ get_or m x v → count_sum m ≡ count_sum m0 + i → count_sum m0 + length xs < 2 ^ 32 → v + 1 < 2 ^ 32
  raised_fits v at read sum fits =
      let value : v ≡ count_at m x = get_or_read m x v at read 0 in
      let few : count_at m x ≤ count_sum m = get_or-le-sum_by (λ n. n) m x 0 at in
      omega (arith, value, few, sum, fits)

  pub raised_sum : (v : ℕ) → x < length m → v ≡ get_or m x v → count_sum m ≡ count_sum m0 + i → count_sum (set m x (v + 1)) ≡ count_sum m0 + (i + 1)
  raised_sum v at read sum =
      let value : v ≡ count_at m x = get_or_read m x v at read 0 in
      let step : count_sum (set m x (v + 1)) + count_at m x ≡ count_sum m + (v + 1) = sum_by-set (λ n. n) m x (v + 1) 0 at in
      omega (arith, value, step, sum)

  pub lowered_sum : (v : ℕ) → x < length m → v ≡ get_or m x v → 1 ≤ v → count_sum m + i ≡ count_sum m0 → count_sum (set m x (v - 1)) + (i + 1) ≡ count_sum m0
  lowered_sum v at read some sum =
      let value : v ≡ count_at m x = get_or_read m x v at read 0 in
      let step : count_sum (set m x (v - 1)) + count_at m x ≡ count_sum m + (v - 1) = sum_by-set (λ n. n) m x (v - 1) 0 at in
      omega (arith, value, step, sum)

  pub raised_step : (v : ℕ) → x < length m → v ≡ get_or m x v → ((l : ℕ) → count_at m l ≡ count_at m0 l + times (take i xs) l) → (l : ℕ) → count_at (set m x (v + 1)) l ≡ count_at m0 l + times (take (i + 1) xs) l
  raised_step v at read sum l =
      let value : v ≡ count_at m x = get_or_read m x v at read 0 in
      ap (λ n. count_at (set m x (n + 1)) l) value ∙ omega (arith, count_raised m x l at, sum l, times_more xs i x l in' is)

  pub lowered_some : ((l : ℕ) → times xs l ≤ count_at m0 l) → ((l : ℕ) → count_at m l + times (take i xs) l ≡ count_at m0 l) → 0 < count_at m x
  lowered_some enough sum =
      let one : times (take (i + 1) xs) x ≡ times (take i xs) x + 1 = times_more xs i x x in' is ∙ ap (λ b. times (take i xs) x + cond {A = ℕ} b 1 0) (eq-eqb x x refl) in
      omega (arith, one, times_front (i + 1) xs x, enough x, sum x)

  pub lowered_at : ((l : ℕ) → times xs l ≤ count_at m0 l) → ((l : ℕ) → count_at m l + times (take i xs) l ≡ count_at m0 l) → x < length m
  lowered_at enough sum = count_within m x (lowered_some enough sum)

  pub lowered_fits : (v : ℕ) → v ≡ get_or m x v → ((l : ℕ) → times xs l ≤ count_at m0 l) → ((l : ℕ) → count_at m l + times (take i xs) l ≡ count_at m0 l) → 1 ≤ v
  lowered_fits v read enough sum =
      let value : v ≡ count_at m x = get_or_read m x v (lowered_at enough sum) read 0 in
      omega (arith, value, lowered_some enough sum)

  pub lowered_step : (v : ℕ) → v ≡ get_or m x v → ((l : ℕ) → times xs l ≤ count_at m0 l) → ((l : ℕ) → count_at m l + times (take i xs) l ≡ count_at m0 l) → (l : ℕ) → count_at (set m x (v - 1)) l + times (take (i + 1) xs) l ≡ count_at m0 l
  lowered_step v read enough sum l =
      let value : v ≡ count_at m x = get_or_read m x v (lowered_at enough sum) read 0 in
      ap (λ n. count_at (set m x (n - 1)) l + times (take (i + 1) xs) l) value ∙ omega (arith, count_lowered m x l (lowered_at enough sum) (lowered_some enough sum), sum l, times_more xs i x l in' is)
