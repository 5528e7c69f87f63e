-- Laws of how many literals of the firm clauses pass a test.
use Rattle.std.proofs.Common.{◌≡◌, ℕ, ◌+◌, ◌≤◌, Bool, true, false, cond, eqb, List, [], ◌∷◌, length, count_by, Option, Some, None, inl, inr, refl, arith}
use Rattle.std.proofs.lemmas.Bool.{cases_Bool, false≢true, and_parts, eqb-true}
use Rattle.std.proofs.lemmas.List.Sums.{sum_by-cons, count_by-le-length}
use Rattle.sat_terms.specs.Literal.{has}
use Rattle.clause_store.specs.Stored.{Stored, keeps_firm, slot, slot_lits, is_firm, Frees}
use Rattle.clause_store.specs.FirmCount.{firm_passes}
use Rattle.firm_terms.specs.Firm.{firm, firm_size, lits_sum}
use Rattle.firm_terms.proofs.Counting.{one_if, count_firm, count_freed, count_le}
use Rattle.firm_terms.proofs.Summing.{sum_freed}
use Rattle.blocked_clauses.specs.Seeking.{occurrences}
use Rattle.blocked_clauses.specs.Passing.{passing_size, passing_sum}

-- a test that fewer literals pass
passing_le : (p q : ℕ → Bool) (c : List ℕ) → ((x : ℕ) → p x ≡ true → q x ≡ true) → count_by p c ≤ count_by q c
passing_le p q [] h = omega arith
passing_le p q (x ∷ c) h =
    let a = sum_by-cons (λ y. cond (p y) 1 0) x c in
    let b = sum_by-cons (λ y. cond (q y) 1 0) x c in
    let r = passing_le p q c h in
    elim (cases_Bool (p x)) [
      | inl i ↦ (let j = h x i in let d : one_if (p x) ≡ 1 = rw i refl in let e : one_if (q x) ≡ 1 = rw j refl in omega (arith, a, b, d, e, r))
      | inr i ↦ (let d : one_if (p x) ≡ 0 = rw i refl in omega (arith, a, b, d, r))
    ]

-- of a clause with a literal that passes no longer, one fewer
passing_less : (p q : ℕ → Bool) (c : List ℕ) (l : ℕ) → ((x : ℕ) → p x ≡ true → q x ≡ true) → p l ≡ false → q l ≡ true → count_by p c + one_if (has c l) ≤ count_by q c
passing_less p q [] l h n y = omega arith
passing_less p q (x ∷ c) l h n y =
    let a = sum_by-cons (λ z. cond (p z) 1 0) x c in
    let b = sum_by-cons (λ z. cond (q z) 1 0) x c in
    elim (cases_Bool (eqb x l)) [
      | inl e ↦
          (let d : one_if (p x) ≡ 0 = rw (eqb-true x l e, n) refl in
          let f : one_if (q x) ≡ 1 = rw (eqb-true x l e, y) refl in
          let r = passing_le p q c h in
          let g : one_if (has (x ∷ c) l) ≡ 1 = rw e refl in
          omega (arith, a, b, d, f, g, r))
      | inr e ↦
          (let r = passing_less p q c l h n y in
          let g : one_if (has (x ∷ c) l) ≡ one_if (has c l) = rw e refl in
          elim (cases_Bool (p x)) [
            | inl i ↦ (let j = h x i in let d : one_if (p x) ≡ 1 = rw i refl in let f : one_if (q x) ≡ 1 = rw j refl in omega (arith, a, b, d, f, g, r))
            | inr i ↦ (let d : one_if (p x) ≡ 0 = rw i refl in omega (arith, a, b, d, g, r))
          ])
    ]

count_cons : (p : Option Stored → Bool) (x : Option Stored) (s : List (Option Stored)) → count_by p (x ∷ s) ≡ one_if (p x) + count_by p s
count_cons p x s = sum_by-cons (λ z. cond (p z) 1 0) x s

-- where a literal passes no longer, the sum falls by the number of clauses with it
pub sum_less : (p q : ℕ → Bool) (s : List (Option Stored)) (l : ℕ) → ((x : ℕ) → p x ≡ true → q x ≡ true) → p l ≡ false → q l ≡ true → passing_sum p s + occurrences s l ≤ passing_sum q s
sum_less p q [] l h n y = omega arith
sum_less p q (None ∷ s) l h n y =
    let r = sum_less p q s l h n y in
    let a = count_cons (firm_passes (λ c. has c l)) None s in
    omega (arith, r, a)
sum_less p q (Some c ∷ s) l h n y =
    let r = sum_less p q s l h n y in
    let a = count_cons (firm_passes (λ d. has d l)) (Some c) s in
    let d = passing_less p q c.lits l h n y in
    elim (cases_Bool (keeps_firm c.keep)) [
      | inl k ↦
          (let e : passing_size p (Some c) ≡ count_by p c.lits = rw k refl in
          let f : passing_size q (Some c) ≡ count_by q c.lits = rw k refl in
          let g : one_if (firm_passes (λ d. has d l) (Some c)) ≡ one_if (has c.lits l) = rw k refl in
          omega (arith, r, a, d, e, f, g))
      | inr k ↦
          (let e : passing_size p (Some c) ≡ 0 = rw k refl in
          let f : passing_size q (Some c) ≡ 0 = rw k refl in
          let g : one_if (firm_passes (λ d. has d l) (Some c)) ≡ 0 = rw k refl in
          omega (arith, r, a, e, f, g))
    ]

pub occurs_le_sum : (q : ℕ → Bool) (s : List (Option Stored)) (l : ℕ) → q l ≡ true → occurrences s l ≤ passing_sum q s
occurs_le_sum q s l y = let r = sum_less (λ _. false) q s l (λ x i. absurd (false≢true i)) refl y in omega (arith, r)

pub sum_le_lits : (p : ℕ → Bool) (s : List (Option Stored)) → passing_sum p s ≤ lits_sum s
sum_le_lits p [] = omega arith
sum_le_lits p (None ∷ s) = let r = sum_le_lits p s in omega (arith, r)
sum_le_lits p (Some c ∷ s) =
    let r = sum_le_lits p s in
    let b = count_by-le-length p c.lits in
    elim (cases_Bool (keeps_firm c.keep)) [
      | inl k ↦ (let e : passing_size p (Some c) ≡ count_by p c.lits = rw k refl in let f : firm_size (Some c) ≡ length c.lits = rw k refl in omega (arith, r, b, e, f))
      | inr k ↦ (let e : passing_size p (Some c) ≡ 0 = rw k refl in let f : firm_size (Some c) ≡ 0 = rw k refl in omega (arith, r, e, f))
    ]

pub occurs_le_firm : (s : List (Option Stored)) (l : ℕ) → occurrences s l ≤ length (firm s)
occurs_le_firm s l =
    let a = count_le (firm_passes (λ c. has c l)) is_firm s (λ x h. (and_parts (is_firm x) (has (slot_lits x) l) h).0) in
    let b = count_firm s in
    omega arith

-- a store with one firm clause less
pub firm_freed : (s t : List (Option Stored)) (id : ℕ) → is_firm (slot s id) ≡ true → Frees s t id → length (firm s) ≡ length (firm t) + 1
firm_freed s t id h frees =
    let a = count_firm s in
    let b = count_firm t in
    let c = count_freed is_firm s t id refl frees in
    let d : one_if (is_firm (slot s id)) ≡ 1 = rw h refl in
    omega (arith, a, b, c, d)

pub lits_freed : (s t : List (Option Stored)) (id : ℕ) → Frees s t id → lits_sum t ≤ lits_sum s
lits_freed s t id frees = let e = sum_freed s t id frees in omega arith
