-- Laws of how many slots of a store pass a test.
use Rattle.std.proofs.Common.{◌≡◌, ◌≢◌, ℕ, suc, zero, ◌+◌, ◌<◌, ◌≤◌, Bool, true, false, cond, eqb, List, [], ◌∷◌, length, get_or, max, Option, Some, None, inl, inr, refl, sym, ap, ◌∙◌, arith, count_by}
use Rattle.std.proofs.lemmas.List.Sums.{sum_by-cons}
use Rattle.std.proofs.lemmas.Bool.{cases_Bool, cases_eq, false≢true, or_left, or_right, eq-eqb, ne_eqb}
use Rattle.sat_terms.specs.Literal.{has}
use Rattle.clause_store.specs.Stored.{Stored, keeps_firm, slot, is_firm, Fills, Frees}
use Rattle.clause_store.specs.Listing.{times, HasEachOnce, firm_at}
use Rattle.clause_store.proofs.Counts.{times-cons, times_at, times_place}
use Rattle.firm_terms.specs.Firm.{firm}

-- a sum over the numbers below n
abbrev pub tally : (ℕ → ℕ) → ℕ → ℕ
tally f zero = 0
tally f (suc n) = f 0 + tally (λ k. f (suc k)) n

pub tally_same : (f g : ℕ → ℕ) (n : ℕ) → ((k : ℕ) → k < n → f k ≡ g k) → tally f n ≡ tally g n
tally_same f g zero h = refl
tally_same f g (suc n) h =
    let a = h 0 (omega arith) in
    let b = tally_same (λ k. f (suc k)) (λ k. g (suc k)) n (λ k lt. h (suc k) (omega arith)) in
    omega arith

-- one more at one place
pub tally_more : (f g : ℕ → ℕ) (n i : ℕ) → i < n → g i ≡ f i + 1 → ((k : ℕ) → k ≢ i → g k ≡ f k) → tally g n ≡ tally f n + 1
tally_more f g zero i in' h others = absurd (omega arith)
tally_more f g (suc n) zero in' h others =
    let b = tally_same (λ k. g (suc k)) (λ k. f (suc k)) n (λ k lt. others (suc k) (λ e. absurd (omega arith))) in
    omega arith
tally_more f g (suc n) (suc i) in' h others =
    let a = others 0 (λ e. absurd (omega arith)) in
    let b = tally_more (λ k. f (suc k)) (λ k. g (suc k)) n i (omega arith) h (λ k ne. others (suc k) (λ e. ne (omega arith))) in
    omega arith

pub tally_add : (f g : ℕ → ℕ) (n : ℕ) → tally (λ k. f k + g k) n ≡ tally f n + tally g n
tally_add f g zero = refl
tally_add f g (suc n) = let b = tally_add (λ k. f (suc k)) (λ k. g (suc k)) n in omega arith

pub tally_le : (f g : ℕ → ℕ) (n : ℕ) → ((k : ℕ) → f k ≤ g k) → tally f n ≤ tally g n
tally_le f g zero h = omega arith
tally_le f g (suc n) h = let a = h 0 in let b = tally_le (λ k. f (suc k)) (λ k. g (suc k)) n (λ k. h (suc k)) in omega arith

tally_zero : (n : ℕ) → tally (λ _. 0) n ≡ 0
tally_zero zero = refl
tally_zero (suc n) = let a = tally_zero n in omega arith

-- a number is one among the numbers below n
tally_one : (x n : ℕ) → x < n → tally (λ k. cond (eqb x k) 1 0) n ≡ 1
tally_one x n in' =
    let here : ◌≡◌ {A = ℕ} (cond (eqb x x) 1 0) (0 + 1) = rw (eq-eqb x x refl) refl in
    let others : (k : ℕ) → k ≢ x → ◌≡◌ {A = ℕ} (cond (eqb x k) 1 0) 0 = λ k ne. rw (ne_eqb x k (λ e. ne (sym e))) refl in
    let r = tally_more (λ _. 0) (λ k. cond (eqb x k) 1 0) n x in' here others in
    let z = tally_zero n in
    omega arith

-- a list of numbers below n, by how often each stands in it
pub length_times : (ids : List ℕ) (n : ℕ) → ((k : ℕ) → k < length ids → get_or ids k 0 < n) → length ids ≡ tally (times ids) n
length_times [] n h = sym (tally_zero n)
length_times (x ∷ ids) n h =
    let a = tally_one x n (h 0 (omega arith)) in
    let b = length_times ids n (λ k lt. h (suc k) (omega arith)) in
    let c = tally_same (times (x ∷ ids)) (λ k. cond (eqb x k) 1 0 + times ids k) n (λ k lt. times-cons x ids k) in
    let d = tally_add (λ k. cond (eqb x k) 1 0) (times ids) n in
    omega arith

-- counts over slots, as sums over ids
pub slot_within : (p : Option Stored → Bool) (s : List (Option Stored)) (k : ℕ) → p None ≡ false → p (slot s k) ≡ true → k < length s
slot_within p [] k h a = absurd (false≢true (sym h ∙ a))
slot_within p (x ∷ s) zero h a = omega arith
slot_within p (x ∷ s) (suc k) h a = let r = slot_within p s k h a in omega arith

-- one where a test passes
abbrev pub one_if : Bool → ℕ
one_if b = cond b 1 0

count-cons : (p : Option Stored → Bool) (x : Option Stored) (s : List (Option Stored)) → count_by p (x ∷ s) ≡ one_if (p x) + count_by p s
count-cons p x s = sum_by-cons (λ z. cond (p z) 1 0) x s

pub count_tally : (p : Option Stored → Bool) (s : List (Option Stored)) (n : ℕ) → p None ≡ false → length s ≤ n → count_by p s ≡ tally (λ k. one_if (p (slot s k))) n
count_tally p [] n h le = sym (tally_same (λ k. one_if (p None)) (λ _. 0) n (λ k lt. ap one_if h) ∙ tally_zero n)
count_tally p (x ∷ s) zero h le = absurd (omega arith)
count_tally p (x ∷ s) (suc n) h le = count-cons p x s ∙ ap (λ (z : ℕ). one_if (p x) + z) (count_tally p s n h (omega arith))

pub count_firm : (s : List (Option Stored)) → count_by is_firm s ≡ length (firm s)
count_firm [] = refl
count_firm (None ∷ s) = let e = count-cons is_firm None s in let r = count_firm s in omega (arith, e, r)
count_firm (Some c ∷ s) = count-cons is_firm (Some c) s ∙ go (keeps_firm c.keep) (count_firm s) where
  go : (b : Bool) → count_by is_firm s ≡ length (firm s) → one_if b + count_by is_firm s ≡ length (cond b (c.lits ∷ firm s) (firm s))
  go true r = omega (arith, r)
  go false r = omega (arith, r)

-- the ids of the firm clauses are as many as these
pub listed : (test : ℕ → Bool) (ids : List ℕ) (k : ℕ) → HasEachOnce test ids → k < length ids → test (get_or ids k 0) ≡ true
listed test ids k h in' =
    let a = times_at ids k in' in
    let b = h.once (get_or ids k 0) in
    elim (cases_Bool (test (get_or ids k 0))) [
      | inl y ↦ y
      | inr n ↦ absurd (let c : times ids (get_or ids k 0) ≡ 0 = b ∙ rw n refl in omega arith)
    ]

pub place_of : (test : ℕ → Bool) (ids : List ℕ) (id : ℕ) → HasEachOnce test ids → test id ≡ true → (k : ℕ) × (k < length ids) × (get_or ids k 0 ≡ id)
place_of test ids id h y = let c : times ids id ≡ 1 = h.once id ∙ rw y refl in times_place ids id (omega arith)

pub count_ids : (s : List (Option Stored)) (ids : List ℕ) → HasEachOnce (firm_at s) ids → length ids ≡ length (firm s)
count_ids s ids h =
    let a = length_times ids (length s) (λ k lt. slot_within is_firm s (get_or ids k 0) refl (listed (firm_at s) ids k h lt)) in
    let b = tally_same (times ids) (λ k. one_if (is_firm (slot s k))) (length s) (λ k lt. h.once k) in
    a ∙ b ∙ sym (count_tally is_firm s (length s) refl (omega arith)) ∙ count_firm s

-- a store with one clause more, or one fewer
pub count_filled : (p : Option Stored → Bool) (s t : List (Option Stored)) (id : ℕ) (c : Stored) → p None ≡ false → Fills s t id c → count_by p t ≡ count_by p s + one_if (p (Some c))
count_filled p s t id c h fills =
    let n : ℕ = max (suc id) (max (length s) (length t)) in
    let a = count_tally p s n h (omega arith) in
    let b = count_tally p t n h (omega arith) in
    let free : one_if (p (slot s id)) ≡ 0 = ap one_if (ap p fills.free ∙ h) in
    elim (cases_Bool (p (Some c))) [
      | inl y ↦
          (let here : one_if (p (slot t id)) ≡ 1 = ap one_if (ap p fills.filled ∙ y) in
          let r = tally_more (λ k. one_if (p (slot s k))) (λ k. one_if (p (slot t k))) n id (omega arith) (omega arith) (λ k ne. ap (λ (z : Option Stored). one_if (p z)) (fills.others k ne)) in
          rw y (omega arith))
      | inr m ↦
          (let r = tally_same (λ k. one_if (p (slot t k))) (λ k. one_if (p (slot s k))) n (λ k lt.
          elim (cases_eq k id) [
            | inl e ↦ rw e (ap one_if (ap p fills.filled ∙ m) ∙ sym free)
            | inr ne ↦ ap (λ (z : Option Stored). one_if (p z)) (fills.others k ne)
          ]) in
          rw m (omega arith))
    ]

pub count_freed : (p : Option Stored → Bool) (s t : List (Option Stored)) (id : ℕ) → p None ≡ false → Frees s t id → count_by p s ≡ count_by p t + one_if (p (slot s id))
count_freed p s t id h frees =
    let n : ℕ = max (suc id) (max (length s) (length t)) in
    let a = count_tally p s n h (omega arith) in
    let b = count_tally p t n h (omega arith) in
    let free : one_if (p (slot t id)) ≡ 0 = ap one_if (ap p frees.freed ∙ h) in
    elim (cases_Bool (p (slot s id))) [
      | inl y ↦
          (let here : one_if (p (slot s id)) ≡ 1 = ap one_if y in
          let r = tally_more (λ k. one_if (p (slot t k))) (λ k. one_if (p (slot s k))) n id (omega arith) (omega arith) (λ k ne. ap (λ (z : Option Stored). one_if (p z)) (sym (frees.others k ne))) in
          rw y (omega arith))
      | inr m ↦
          (let r = tally_same (λ k. one_if (p (slot t k))) (λ k. one_if (p (slot s k))) n (λ k lt.
          elim (cases_eq k id) [
            | inl e ↦ rw e (free ∙ sym (ap one_if m))
            | inr ne ↦ ap (λ (z : Option Stored). one_if (p z)) (frees.others k ne)
          ]) in
          rw m (omega arith))
    ]

pub count_le : (p q : Option Stored → Bool) (s : List (Option Stored)) → ((x : Option Stored) → p x ≡ true → q x ≡ true) → count_by p s ≤ count_by q s
count_le p q [] h = omega arith
count_le p q (x ∷ s) h =
    let r = count_le p q s h in
    let a = count-cons p x s in
    let b = count-cons q x s in
    elim (cases_Bool (p x)) [
      | inl y ↦ (let c : one_if (p x) ≡ 1 = ap one_if y in let d : one_if (q x) ≡ 1 = ap one_if (h x y) in omega (arith, a, b, c, d, r))
      | inr m ↦ (let c : one_if (p x) ≡ 0 = ap one_if m in omega (arith, a, b, c, r))
    ]

-- two slots that pass, and three
without_one : (f : ℕ → ℕ) (n i : ℕ) → i < n → f i ≡ 1 → tally f n ≡ tally (λ k. cond (eqb k i) 0 (f k)) n + 1
without_one f n i in' h =
    let at : ◌≡◌ {A = ℕ} (cond (eqb i i) 0 (f i)) 0 = rw (eq-eqb i i refl) refl in
    tally_more (λ k. cond (eqb k i) 0 (f k)) f n i in' (omega arith) (λ k ne. rw (ne_eqb k i ne) refl)

pub count_two : (p : Option Stored → Bool) (s : List (Option Stored)) (i j : ℕ) → p None ≡ false → i ≢ j → p (slot s i) ≡ true → p (slot s j) ≡ true → 2 ≤ count_by p s
count_two p s i j h ne a b =
    let n : ℕ = length s in
    let f : ℕ → ℕ = λ k. one_if (p (slot s k)) in
    let g : ℕ → ℕ = λ k. cond (eqb k i) 0 (f k) in
    let x = without_one f n i (slot_within p s i h a) (ap one_if a) in
    let y = without_one g n j (slot_within p s j h b) (rw (ne_eqb j i (λ e. ne (sym e))) (ap one_if b)) in
    let c = count_tally p s n h (omega arith) in
    omega arith

pub count_three : (p : Option Stored → Bool) (s : List (Option Stored)) (i j k : ℕ) → p None ≡ false → i ≢ j → i ≢ k → j ≢ k → p (slot s i) ≡ true → p (slot s j) ≡ true → p (slot s k) ≡ true → 3 ≤ count_by p s
count_three p s i j k h ij ik jk a b c =
    let n : ℕ = length s in
    let f : ℕ → ℕ = λ m. one_if (p (slot s m)) in
    let g : ℕ → ℕ = λ m. cond (eqb m i) 0 (f m) in
    let e : ℕ → ℕ = λ m. cond (eqb m j) 0 (g m) in
    let x = without_one f n i (slot_within p s i h a) (ap one_if a) in
    let y = without_one g n j (slot_within p s j h b) (rw (ne_eqb j i (λ u. ij (sym u))) (ap one_if b)) in
    let z = without_one e n k (slot_within p s k h c) (rw (ne_eqb k j (λ u. jk (sym u)), ne_eqb k i (λ u. ik (sym u))) (ap one_if c)) in
    let d = count_tally p s n h (omega arith) in
    omega arith

-- a list that has each number which passes once has just these
has_some_times : (ids : List ℕ) (k : ℕ) → 0 < times ids k → has ids k ≡ true
has_some_times [] k h = absurd (omega arith)
has_some_times (x ∷ ids) k h =
    elim (cases_eq x k) [
      | inl e ↦ or_left (eqb x k) (has ids k) (eq-eqb x k e)
      | inr n ↦
          (let less : times (x ∷ ids) k ≡ times ids k = times-cons x ids k ∙ ap (λ b. cond b 1 0 + times ids k) (ne_eqb x k n) ∙ omega arith in
          or_right (eqb x k) (has ids k) (has_some_times ids k (omega arith)))
    ]

has_no_times : (ids : List ℕ) (k : ℕ) → times ids k ≡ 0 → has ids k ≡ false
has_no_times [] k h = refl
has_no_times (x ∷ ids) k h =
    elim (cases_eq x k) [
      | inl e ↦
          (let more : times (x ∷ ids) k ≡ 1 + times ids k = times-cons x ids k ∙ ap (λ b. cond b 1 0 + times ids k) (eq-eqb x k e) in
          absurd (omega arith))
      | inr n ↦
          (let less : times (x ∷ ids) k ≡ times ids k = times-cons x ids k ∙ ap (λ b. cond b 1 0 + times ids k) (ne_eqb x k n) ∙ omega arith in
          rw (ne_eqb x k n) (has_no_times ids k (omega arith)))
    ]

pub listed_has : (test : ℕ → Bool) (ids : List ℕ) (k : ℕ) → HasEachOnce test ids → has ids k ≡ test k
listed_has test ids k h =
    elim (cases_Bool (test k)) [
      | inl y ↦ (let one : times ids k ≡ 1 = rw y at (h.once k) in has_some_times ids k (omega arith) ∙ sym y)
      | inr n ↦ (let none : times ids k ≡ 0 = rw n at (h.once k) in has_no_times ids k none ∙ sym n)
    ]
