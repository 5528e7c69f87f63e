-- Laws of how many different ids stand in a list.
use Rattle.std.proofs.Common.{◌≡◌, ◌≢◌, ℕ, suc, zero, ◌+◌, ◌<◌, ◌≤◌, Bool, true, false, eqb, List, [], ◌∷◌, length, max, Option, inl, inr, refl, sym, ap, ◌∙◌, subst, arith}
use Rattle.std.proofs.lemmas.Bool.{false≢true, cases_Bool, cases_eq, or_cases, or_left, or_right, eqb-true, eq-eqb, ne_eqb}
use Rattle.sat_terms.specs.Literal.{has}
use Rattle.clause_store.specs.Stored.{Stored, slot, is_firm}
use Rattle.firm_terms.specs.Firm.{firm}
use Rattle.firm_terms.proofs.Counting.{one_if, tally, tally_same, tally_more, tally_le, count_tally, count_firm, slot_within}
use Rattle.subsume_pass.specs.Trying.{different}

-- a number above each of a list
bound : List ℕ → ℕ
bound [] = 0
bound (x ∷ ids) = max (suc x) (bound ids)

below : (ids : List ℕ) (k : ℕ) → has ids k ≡ true → k < bound ids
unfolding bound
below [] k h = absurd (false≢true h)
below (x ∷ ids) k h =
    elim (or_cases (eqb x k) (has ids k) h) [
      | inl e ↦ (let is = eqb-true x k e in omega arith)
      | inr t ↦ (let r = below ids k t in omega arith)
    ]

-- as a sum: one for each number that stands there
abbrev share : List ℕ → ℕ → ℕ
share ids k = one_if (has ids k)

nothing : (n : ℕ) → tally (λ k. one_if false) n ≡ 0
nothing zero = refl
nothing (suc n) = let r = nothing n in omega arith

as_sum : (ids : List ℕ) (n : ℕ) → ((k : ℕ) → has ids k ≡ true → k < n) → different ids ≡ tally (share ids) n
as_sum [] n h = sym (nothing n)
as_sum (x ∷ ids) n h =
    let r = as_sum ids n (λ k y. h k (or_right (eqb x k) (has ids k) y)) in
    let lt = h x (or_left (eqb x x) (has ids x) (eq-eqb x x refl)) in
    let others : (k : ℕ) → k ≢ x → share (x ∷ ids) k ≡ share ids k = λ k ne. rw (ne_eqb x k (λ e. ne (sym e))) refl in
    let here : share (x ∷ ids) x ≡ 1 = rw (eq-eqb x x refl) refl in
    elim (cases_Bool (has ids x)) [
      | inl y ↦
          (let same = tally_same (share (x ∷ ids)) (share ids) n (λ k _. elim (cases_eq k x) [ inl e ↦ subst (λ (z : ℕ). share (x ∷ ids) z ≡ share ids z) (sym e) (here ∙ sym (ap one_if y)) | inr ne ↦ others k ne ]) in
          rw y (r ∙ sym same))
      | inr m ↦
          (let zero' : share ids x ≡ 0 = ap one_if m in
          let more = tally_more (share ids) (share (x ∷ ids)) n x lt (omega arith) others in
          rw m (omega arith))
    ]

-- fewer stand there
pub different_le : (a b : List ℕ) → ((k : ℕ) → has a k ≡ true → has b k ≡ true) → different a ≤ different b
different_le a b h =
    let n = max (bound a) (bound b) in
    let x = as_sum a n (λ k y. let r = below a k y in omega arith) in
    let y = as_sum b n (λ k y. let r = below b k y in omega arith) in
    let le = tally_le (share a) (share b) n (λ k. elim (cases_Bool (has a k)) [ inl p ↦ rw (p, h k p) (omega arith) | inr q ↦ rw q (omega arith) ]) in
    omega arith

-- one more at most
pub different_more : (a b : List ℕ) (x : ℕ) → ((k : ℕ) → has a k ≡ true → (k ≢ x) → has b k ≡ true) → different a ≤ different b + 1
different_more a b x h =
    let le = different_le a (x ∷ b) (λ k y. elim (cases_eq k x) [ inl e ↦ or_left (eqb x k) (has b k) (eq-eqb x k (sym e)) | inr ne ↦ or_right (eqb x k) (has b k) (h k y ne) ]) in
    let more : different (x ∷ b) ≤ different b + 1 = elim (cases_Bool (has b x)) [ inl p ↦ rw p (omega arith) | inr q ↦ rw q (omega arith) ] in
    omega arith

-- one fewer at least
pub different_less : (a b : List ℕ) (x : ℕ) → has b x ≡ true → has a x ≡ false → ((k : ℕ) → has a k ≡ true → has b k ≡ true) → different a + 1 ≤ different b
different_less a b x there gone sub =
    let le = different_le (x ∷ a) b (λ k y. elim (or_cases (eqb x k) (has a k) y) [ inl e ↦ subst (λ (z : ℕ). has b z ≡ true) (eqb-true x k e) there | inr t ↦ sub k t ]) in
    let more : different (x ∷ a) ≡ different a + 1 = rw gone refl in
    omega arith

-- one in the place of another
pub different_swap : (a b : List ℕ) (x y : ℕ) → has b x ≡ true → has a x ≡ false → ((k : ℕ) → has a k ≡ true → (k ≢ y) → has b k ≡ true) → different a ≤ different b
different_swap a b x y there gone sub =
    let le = different_more (x ∷ a) b y (λ k i ne. elim (or_cases (eqb x k) (has a k) i) [ inl e ↦ subst (λ (z : ℕ). has b z ≡ true) (eqb-true x k e) there | inr t ↦ sub k t ne ]) in
    let more : different (x ∷ a) ≡ different a + 1 = rw gone refl in
    omega arith

-- no more than there are places
pub different_most : (ids : List ℕ) → different ids ≤ length ids
different_most [] = omega arith
different_most (x ∷ ids) =
    let r = different_most ids in
    elim (cases_Bool (has ids x)) [ inl p ↦ rw p (omega arith) | inr q ↦ rw q (omega arith) ]

pub different_some : (ids : List ℕ) → 0 < length ids → 0 < different ids
different_some [] lt = absurd (omega arith)
different_some (x ∷ ids) lt = go (has ids x) refl where
  go : (b : Bool) → has ids x ≡ b → 0 < different (x ∷ ids)
  go true e = rw e (let r = different_less [] ids x e refl (λ k h. absurd (false≢true h)) in omega arith)
  go false e = rw e (omega arith)

-- no more than there are firm clauses, where they are theirs
pub different_firm : (s : List (Option Stored)) (ids : List ℕ) → ((k : ℕ) → has ids k ≡ true → is_firm (slot s k) ≡ true) → different ids ≤ length (firm s)
different_firm s ids h =
    let x = as_sum ids (length s) (λ k y. slot_within is_firm s k refl (h k y)) in
    let le = tally_le (share ids) (λ k. one_if (is_firm (slot s k))) (length s) (λ k. elim (cases_Bool (has ids k)) [ inl p ↦ rw (p, h k p) (omega arith) | inr q ↦ rw q (omega arith) ]) in
    let c = count_tally is_firm s (length s) refl (omega arith) in
    let d = count_firm s in
    omega arith

-- none stands there
pub nil_of : (ids : List ℕ) → length ids ≤ 0 → ids ≡ []
nil_of [] le = refl
nil_of (x ∷ ids) le = absurd (omega arith)

pub nil_where_none : (ids : List ℕ) → ((k : ℕ) → has ids k ≡ false) → ids ≡ []
nil_where_none [] h = refl
nil_where_none (x ∷ ids) h = absurd (false≢true (sym (h x) ∙ or_left (eqb x x) (has ids x) (eq-eqb x x refl)))
