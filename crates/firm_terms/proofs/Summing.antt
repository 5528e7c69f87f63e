-- Laws of the sum of the lengths of the firm clauses.
use Rattle.std.proofs.Common.{◌≡◌, ◌≢◌, ℕ, suc, zero, ◌+◌, ◌*◌, ◌<◌, ◌≤◌, Bool, true, false, cond, eqb, List, [], ◌∷◌, length, get_or, max, Option, Some, None, inl, inr, refl, sym, ap, ◌∙◌, arith}
use Rattle.std.specs.List.{sum_by}
use Rattle.std.proofs.lemmas.List.Sums.{sum_by-cons}
use Rattle.std.proofs.lemmas.Bool.{cases_Bool, false≢true, eq-eqb, ne_eqb}
use Rattle.clause_store.specs.Stored.{Stored, slot, slot_lits, is_firm, Fills, Frees}
use Rattle.clause_store.specs.Listing.{times, HasEachOnce, firm_at}
use Rattle.clause_store.proofs.Counts.{times-cons, times_at}
use Rattle.firm_terms.specs.Firm.{firm_size, lits_sum}
use Rattle.firm_terms.proofs.Counting.{tally, tally_same, tally_add, listed, slot_within}

-- two sums that differ at one place
pub tally_at : (f g : ℕ → ℕ) (n i : ℕ) → i < n → ((k : ℕ) → k ≢ i → g k ≡ f k) → tally g n + f i ≡ tally f n + g i
tally_at f g zero i in' others = absurd (omega arith)
tally_at f g (suc n) zero in' others =
    let b = tally_same (λ k. g (suc k)) (λ k. f (suc k)) n (λ k lt. others (suc k) (λ e. absurd (omega arith))) in
    omega arith
tally_at f g (suc n) (suc i) in' others =
    let a = others 0 (λ e. absurd (omega arith)) in
    let b = tally_at (λ k. f (suc k)) (λ k. g (suc k)) n i (omega arith) (λ k ne. others (suc k) (λ e. ne (omega arith))) in
    omega arith

tally_nil : (n : ℕ) → tally (λ _. 0) n ≡ 0
tally_nil zero = refl
tally_nil (suc n) = let a = tally_nil n in omega arith

pub sum_tally : (s : List (Option Stored)) (n : ℕ) → length s ≤ n → lits_sum s ≡ tally (λ k. firm_size (slot s k)) n
sum_tally [] n le = sym (tally_same (λ k. firm_size None) (λ _. 0) n (λ k lt. refl) ∙ tally_nil n)
sum_tally (x ∷ s) zero le = absurd (omega arith)
sum_tally (x ∷ s) (suc n) le = let r = sum_tally s n (omega arith) in ap (λ (z : ℕ). firm_size x + z) r

pub sum_filled : (s t : List (Option Stored)) (id : ℕ) (c : Stored) → Fills s t id c → lits_sum t ≡ lits_sum s + firm_size (Some c)
sum_filled s t id c fills =
    let n : ℕ = max (suc id) (max (length s) (length t)) in
    let a = sum_tally s n (omega arith) in
    let b = sum_tally t n (omega arith) in
    let d = tally_at (λ k. firm_size (slot s k)) (λ k. firm_size (slot t k)) n id (omega arith) (λ k ne. ap firm_size (fills.others k ne)) in
    let e = ap firm_size fills.free in
    let f = ap firm_size fills.filled in
    omega arith

pub sum_freed : (s t : List (Option Stored)) (id : ℕ) → Frees s t id → lits_sum s ≡ lits_sum t + firm_size (slot s id)
sum_freed s t id frees =
    let n : ℕ = max (suc id) (max (length s) (length t)) in
    let a = sum_tally s n (omega arith) in
    let b = sum_tally t n (omega arith) in
    let d = tally_at (λ k. firm_size (slot s k)) (λ k. firm_size (slot t k)) n id (omega arith) (λ k ne. ap firm_size (frees.others k ne)) in
    let e = ap firm_size frees.freed in
    omega arith

pub firm_size_is : (x : Option Stored) → is_firm x ≡ true → firm_size x ≡ length (slot_lits x)
firm_size_is None h = absurd (false≢true h)
firm_size_is (Some c) h = rw h refl

-- a sum over a list of ids
tally_single : (f : ℕ → ℕ) (x n : ℕ) → x < n → tally (λ k. cond (eqb x k) (f k) 0) n ≡ f x
tally_single f x n lt =
    let a = tally_at (λ _. 0) (λ k. cond (eqb x k) (f k) 0) n x lt (λ k ne. rw (ne_eqb x k (λ e. ne (sym e))) refl) in
    let b = tally_nil n in
    let c : cond (eqb x x) (f x) 0 ≡ f x = rw (eq-eqb x x refl) refl in
    omega arith

weighted : (b : Bool) (t f : ℕ) → (cond b 1 0 + t) * f ≡ cond b f 0 + t * f
weighted true t f = let e : (1 + t) * f ≡ f + t * f = grind arith in e
weighted false t f = let e : (0 + t) * f ≡ 0 + t * f = grind arith in e

pub sum_times : (f : ℕ → ℕ) (ids : List ℕ) (n : ℕ) → ((k : ℕ) → k < length ids → get_or ids k 0 < n) → sum_by f ids ≡ tally (λ k. times ids k * f k) n
sum_times f [] n h = sym (tally_same (λ k. 0 * f k) (λ _. 0) n (λ k lt. omega arith) ∙ tally_nil n)
sum_times f (x ∷ ids) n h =
    let a = tally_single f x n (h 0 (omega arith)) in
    let b = sum_times f ids n (λ k lt. h (suc k) (omega arith)) in
    let c = tally_same (λ k. times (x ∷ ids) k * f k) (λ k. cond (eqb x k) (f k) 0 + times ids k * f k) n (λ k lt. ap (λ (z : ℕ). z * f k) (times-cons x ids k) ∙ weighted (eqb x k) (times ids k) (f k)) in
    let d = tally_add (λ k. cond (eqb x k) (f k) 0) (λ k. times ids k * f k) n in
    let e = sum_by-cons f x ids in
    omega (arith, a, b, c, d, e)

pub sum_ids : (s : List (Option Stored)) (ids : List ℕ) → HasEachOnce (firm_at s) ids → sum_by (λ k. firm_size (slot s k)) ids ≡ lits_sum s
sum_ids s ids h =
    let a = sum_times (λ k. firm_size (slot s k)) ids (length s) (λ k lt. slot_within is_firm s (get_or ids k 0) refl (listed (firm_at s) ids k h lt)) in
    let b = tally_same (λ k. times ids k * firm_size (slot s k)) (λ k. firm_size (slot s k)) (length s) (λ k lt. each k (slot s k) refl) in
    a ∙ b ∙ sym (sum_tally s (length s) (omega arith)) where
      no_size : (x : Option Stored) → is_firm x ≡ false → firm_size x ≡ 0
      no_size None h = refl
      no_size (Some c) h = rw h refl

      each : (k : ℕ) (x : Option Stored) → slot s k ≡ x → times ids k * firm_size (slot s k) ≡ firm_size (slot s k)
      each k x e =
          elim (cases_Bool (is_firm (slot s k))) [
            | inl y ↦ (let o : times ids k ≡ 1 = h.once k ∙ rw y refl in rw o (omega arith))
            | inr n ↦ (let z = no_size (slot s k) n in rw z (omega arith))
          ]

-- each id stands at one place alone
pub once_apart : (test : ℕ → Bool) (ids : List ℕ) (i j : ℕ) → HasEachOnce test ids → i < j → j < length ids → get_or ids i 0 ≢ get_or ids j 0
once_apart test ids i j h lt in' e =
    let two = twice ids i j lt in' e in
    let o = h.once (get_or ids i 0) in
    elim (cases_Bool (test (get_or ids i 0))) [
      | inl y ↦ (let p : times ids (get_or ids i 0) ≡ 1 = o ∙ rw y refl in absurd (omega arith))
      | inr n ↦ (let p : times ids (get_or ids i 0) ≡ 0 = o ∙ rw n refl in absurd (omega arith))
    ] where
      twice : (ids : List ℕ) (i j : ℕ) → i < j → j < length ids → get_or ids i 0 ≡ get_or ids j 0 → 2 ≤ times ids (get_or ids i 0)
      twice [] i j lt in' e = absurd (omega arith)
      twice (x ∷ ids) i zero lt in' e = absurd (omega arith)
      twice (x ∷ ids) zero (suc j) lt in' e =
          let a = times-cons x ids x in
          let one : ◌≡◌ {A = ℕ} (cond (eqb x x) 1 0) 1 = rw (eq-eqb x x refl) refl in
          let b = times_at ids j (omega arith) in
          let c : times ids (get_or ids j 0) ≡ times ids x = ap (times ids) (sym e) in
          omega arith
      twice (x ∷ ids) (suc i) (suc j) lt in' e =
          let a = times-cons x ids (get_or ids i 0) in
          let b = twice ids i j (omega arith) (omega arith) e in
          omega arith
