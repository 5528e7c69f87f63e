-- How many clauses of a store pass a test.
use Rattle.std.proofs.Common.{◌≡◌, ◌≢◌, ℕ, suc, zero, ◌+◌, ◌<◌, ◌≤◌, eqb, Bool, true, false, cond, ◌&&◌, List, [], ◌∷◌, length, take, get_or, count_by, Option, Some, None, inl, inr, refl, sym, ap, ◌∙◌, arith}
use Rattle.std.proofs.lemmas.Bool.{cases_eq, cases_lt, eq-eqb, ne_eqb}
use Rattle.std.proofs.lemmas.List.{get_or_past, take_all}
use Rattle.std.proofs.lemmas.List.Sums.{sum_by-cons, sum_by_more}
use Rattle.sat_terms.specs.Literal.{has}
use Rattle.clause_store.specs.Stored.{Stored, slot, is_firm}
use Rattle.clause_store.specs.Listing.{times}
use Rattle.clause_store.specs.FirmCount.{firm_passes, AddingCounts, RemovingCounts, SameSlotsCount, ListsCount}
use Rattle.clause_store.proofs.Counts.{times-cons}

module _ (p : Option Stored → Bool) (none : p None ≡ false) where
  counted-cons : (x : Option Stored) (s : List (Option Stored)) → count_by p (x ∷ s) ≡ cond (p x) 1 0 + count_by p s
  counted-cons x s = sum_by-cons (λ z. cond (p z) 1 0) x s

  free : (x : Option Stored) → x ≡ None → ◌≡◌ {A = ℕ} (cond (p x) 1 0) 0
  free x e = rw (e, none) refl

  count_same : (s t : List (Option Stored)) → ((j : ℕ) → get_or t j None ≡ get_or s j None) → count_by p t ≡ count_by p s
  count_same [] [] same = refl
  count_same [] (y ∷ t) same = counted-cons y t ∙ omega (arith, free y (same 0), count_same [] t (λ j. same (suc j) ∙ refl))
  count_same (x ∷ s) [] same = sym (counted-cons x s ∙ omega (arith, free x (sym (same 0)), count_same s [] (λ j. same (suc j))))
  count_same (x ∷ s) (y ∷ t) same = counted-cons y t ∙ omega (arith, ap (λ z. cond {A = ℕ} (p z) 1 0) (same 0), counted-cons x s, count_same s t (λ j. same (suc j)))

  -- the clause of one id differs, which was none before
  count_filled : (s t : List (Option Stored)) (id : ℕ) (c : Option Stored) → get_or s id None ≡ None → get_or t id None ≡ c → ((j : ℕ) → j ≢ id → get_or t j None ≡ get_or s j None) → count_by p t ≡ cond (p c) 1 0 + count_by p s
  count_filled [] [] id c was is others = sym (omega (arith, free c (sym is)))
  count_filled [] (y ∷ t) zero c was is others = counted-cons y t ∙ omega (arith, ap (λ z. cond {A = ℕ} (p z) 1 0) is, count_same [] t (λ j. others (suc j) (λ e. absurd (omega arith))))
  count_filled [] (y ∷ t) (suc id) c was is others = counted-cons y t ∙ omega (arith, free y (others 0 (λ e. absurd (omega arith))), count_filled [] t id c refl is (λ j n. others (suc j) (λ e. n (omega arith))))
  count_filled (x ∷ s) [] zero c was is others = sym (omega (arith, free c (sym is), counted-cons x s, free x was, count_same s [] (λ j. others (suc j) (λ e. absurd (omega arith)))))
  count_filled (x ∷ s) [] (suc id) c was is others = sym (omega (arith, counted-cons x s, free x (sym (others 0 (λ e. absurd (omega arith)))), count_filled s [] id c was is (λ j n. others (suc j) (λ e. n (omega arith)))))
  count_filled (x ∷ s) (y ∷ t) zero c was is others = counted-cons y t ∙ omega (arith, ap (λ z. cond {A = ℕ} (p z) 1 0) is, counted-cons x s, free x was, count_same s t (λ j. others (suc j) (λ e. absurd (omega arith))))
  count_filled (x ∷ s) (y ∷ t) (suc id) c was is others = counted-cons y t ∙ omega (arith, ap (λ z. cond {A = ℕ} (p z) 1 0) (others 0 (λ e. absurd (omega arith))), counted-cons x s, count_filled s t id c was is (λ j n. others (suc j) (λ e. n (omega arith))))

pub adding_counts : AddingCounts
adding_counts test s t id c h =
    let e = count_filled (firm_passes test) refl s t id (Some c) h.free h.filled h.others in
    omega (arith, e)

pub removing_counts : RemovingCounts
removing_counts test s t id h =
    let e = count_filled (firm_passes test) refl t s id (slot s id) h.freed refl (λ j n. sym (h.others j n)) in
    omega (arith, e)

pub same_slots_count : SameSlotsCount
same_slots_count s t same test = count_same (firm_passes test) refl s t same

-- the sum of what a function has at the numbers below n
total : (ℕ → ℕ) → ℕ → ℕ
total f zero = 0
total f (suc n) = total f n + f n

total_same : (f g : ℕ → ℕ) (n : ℕ) → ((i : ℕ) → f i ≡ g i) → total f n ≡ total g n
unfolding total
total_same f g zero h = refl
total_same f g (suc n) h = omega (arith, total_same f g n h, h n)

total_both : (f g : ℕ → ℕ) (n : ℕ) → total (λ i. f i + g i) n ≡ total f n + total g n
unfolding total
total_both f g zero = refl
total_both f g (suc n) = let r = total_both f g n in omega (arith, r)

total_none : (n : ℕ) → total (λ i. 0) n ≡ 0
unfolding total
total_none zero = refl
total_none (suc n) = omega (arith, total_none n)

-- a number below n is met once
one : ℕ → ℕ → ℕ
one x i = cond (eqb x i) 1 0

total_past : (x n : ℕ) → n ≤ x → total (one x) n ≡ 0
unfolding total one
total_past x zero past = refl
total_past x (suc n) past = omega (arith, total_past x n (omega arith), ap (λ b. cond {A = ℕ} b 1 0) (ne_eqb x n (λ e. absurd (omega arith))))

total_one : (x n : ℕ) → x < n → total (one x) n ≡ 1
unfolding total one
total_one x zero lt = absurd (omega arith)
total_one x (suc n) lt =
    elim (cases_eq x n) [
      | inl e ↦ omega (arith, total_past x n (omega arith), ap (λ b. cond {A = ℕ} b 1 0) (eq-eqb x n e))
      | inr ne ↦ omega (arith, total_one x n (omega arith), ap (λ b. cond {A = ℕ} b 1 0) (ne_eqb x n ne))
    ]

one_more : (x : ℕ) (xs : List ℕ) (i : ℕ) → times (x ∷ xs) i ≡ one x i + times xs i
unfolding one
one_more x xs i = times-cons x xs i

-- a list of numbers below n is as long as they stand there
length_total : (xs : List ℕ) (n : ℕ) → ((i : ℕ) → n ≤ i → times xs i ≡ 0) → length xs ≡ total (times xs) n
length_total [] n h = sym (total_none n)
length_total (x ∷ xs) n h =
    let below : x < n = elim (cases_lt x n) [
      | inl lt ↦ lt
      | inr ge ↦ absurd (omega (arith, h x ge, times-cons x xs x, ap (λ b. cond {A = ℕ} b 1 0) (eq-eqb x x refl)))
    ] in
    let rest = length_total xs n (λ i past. omega (arith, h i past, times-cons x xs i)) in
    let split = total_same (times (x ∷ xs)) (λ i. one x i + times xs i) n (one_more x xs) in
    omega (arith, rest, split, total_both (one x) (times xs) n, total_one x n below)

-- how many clauses pass, one id after the other
count_total : (p : Option Stored → Bool) (s : List (Option Stored)) (n : ℕ) → n ≤ length s → count_by p (take n s) ≡ total (λ i. cond (p (slot s i)) 1 0) n
unfolding total
count_total p s zero le = refl
count_total p s (suc n) le =
    let r = count_total p s n (omega arith) in
    let more = sum_by_more (λ x. cond (p x) 1 0) s n None (omega arith) in
    let e : n + 1 ≡ suc n = omega arith in
    ap (λ k. count_by p (take k s)) (sym e) ∙ more ∙ ap (λ k. k + cond (p (slot s n)) 1 0) r

-- a list with the ids of the clauses that pass
list_count : (p : Option Stored → Bool) (none : p None ≡ false) (s : List (Option Stored)) (ids : List ℕ) → ((id : ℕ) → times ids id ≡ cond (p (slot s id)) 1 0) → length ids ≡ count_by p s
list_count p none s ids once =
    let n = length s in
    length_total ids n (λ i past. once i ∙ ap (λ x. cond (p x) 1 0) (get_or_past s i None past) ∙ ap (λ b. cond b 1 0) none)
    ∙ total_same (times ids) (λ i. cond (p (slot s i)) 1 0) n once
    ∙ sym (count_total p s n (omega arith))
    ∙ ap (count_by p) (take_all n s (omega arith))

and_true : (a : Bool) → a && true ≡ a
and_true true = refl
and_true false = refl

pub lists_count : ListsCount
lists_count s ids = (
  (λ h. list_count (firm_passes (λ c. true)) refl s ids (λ id. h.once id ∙ ap (λ b. cond b 1 0) (sym (and_true (is_firm (slot s id)))))),
  (λ lit h. list_count (firm_passes (λ c. has c lit)) refl s ids h.once),
)
