-- Counts by place, changed for each place of a list.
use Rattle.std.proofs.Common.{true, ltb, ◌≡◌, ◌≢◌, ℕ, ◌+◌, ◌-◌, ◌<◌, ◌≤◌, ◌^◌, cond, eqb, List, [], length, get_or, set, take, inl, inr, sym, ap, ◌∙◌, arith}
use Rattle.std.proofs.lemmas.Bool.{lt-ltb, cases_eq, cases_lt, eq-eqb, ne_eqb}
use Rattle.std.proofs.lemmas.List.{get_or_default, get_or_past, get_or-set_same, get_or-set_other}
use Rattle.std.proofs.lemmas.List.Sums.{sum_by_more, sum_by_more_le}
use Rattle.clause_store.specs.Listing.{times}

-- what was read at a place
pub item_at : (xs : List ℕ) (i x : ℕ) → i < length xs → x ≡ get_or xs i x → x ≡ get_or xs i 0
item_at xs i x in' read = read ∙ get_or_default xs i x 0 in'

more_same : (xs : List ℕ) (i : ℕ) → i < length xs → times (take (i + 1) xs) (get_or xs i 0) ≡ times (take i xs) (get_or xs i 0) + 1
more_same xs i in' =
    let x = get_or xs i 0 in
    sum_by_more (λ z. cond (eqb z x) 1 0) xs i 0 in' ∙ ap (λ b. times (take i xs) x + cond b 1 0) (eq-eqb x x (λ _. x))

more_other : (xs : List ℕ) (i k : ℕ) → i < length xs → k ≢ get_or xs i 0 → times (take (i + 1) xs) k ≡ times (take i xs) k
more_other xs i k in' ne =
    sum_by_more (λ z. cond (eqb z k) 1 0) xs i 0 in' ∙ ap (λ b. times (take i xs) k + cond b 1 0) (ne_eqb (get_or xs i 0) k (λ e. ne (sym e))) ∙ omega arith

more_le : (xs : List ℕ) (i : ℕ) → i < length xs → times (take i xs) (get_or xs i 0) + 1 ≤ times xs (get_or xs i 0)
more_le xs i in' =
    let x = get_or xs i 0 in
    let le = sum_by_more_le (λ z. cond (eqb z x) 1 0) xs i 0 in' in
    let one : ◌≡◌ {A = ℕ} (cond (eqb x x) 1 0) 1 = ap (λ b. cond {A = ℕ} b 1 0) (eq-eqb x x (λ _. x)) in
    omega (arith, one, le)

pub up_room : (old now xs : List ℕ) (i : ℕ) → i < length xs → ((k : ℕ) → get_or now k 0 ≡ get_or old k 0 + times (take i xs) k) → ((k : ℕ) → get_or old k 0 + times xs k < 2 ^ 64) → get_or now (get_or xs i 0) 0 + 1 < 2 ^ 64
up_room old now xs i in' h room = let x = get_or xs i 0 in omega (arith, h x, room x, more_le xs i in')

pub up_within : (xs : List ℕ) (i n : ℕ) → i < length xs → ((k : ℕ) → 0 < times xs k → k < n) → get_or xs i 0 < n
up_within xs i n in' h = let x = get_or xs i 0 in h x (omega (arith, more_le xs i in'))

pub up_more : (old now xs : List ℕ) (i : ℕ) → i < length xs → get_or xs i 0 < length now → ((k : ℕ) → get_or now k 0 ≡ get_or old k 0 + times (take i xs) k)
    → (k : ℕ) → get_or (set now (get_or xs i 0) (get_or now (get_or xs i 0) 0 + 1)) k 0 ≡ get_or old k 0 + times (take (i + 1) xs) k
up_more old now xs i in' lt h k =
    let x = get_or xs i 0 in
    elim (cases_eq k x) [
      | inl e ↦ rw e (get_or-set_same now x (get_or now x 0 + 1) 0 lt ∙ omega (arith, h x, more_same xs i in'))
      | inr n ↦ get_or-set_other now x k (get_or now x 0 + 1) 0 n ∙ h k ∙ ap (λ y. get_or old k 0 + y) (sym (more_other xs i k in' n))
    ]

pub down_room : (old now xs : List ℕ) (i : ℕ) → i < length xs → ((k : ℕ) → get_or now k 0 + times (take i xs) k ≡ get_or old k 0) → ((k : ℕ) → times xs k ≤ get_or old k 0) → 0 < get_or now (get_or xs i 0) 0
down_room old now xs i in' h room = let x = get_or xs i 0 in omega (arith, h x, room x, more_le xs i in')

pub down_more : (old now xs : List ℕ) (i : ℕ) → i < length xs → 0 < get_or now (get_or xs i 0) 0 → ((k : ℕ) → get_or now k 0 + times (take i xs) k ≡ get_or old k 0)
    → (k : ℕ) → get_or (set now (get_or xs i 0) (get_or now (get_or xs i 0) 0 - 1)) k 0 + times (take (i + 1) xs) k ≡ get_or old k 0
down_more old now xs i in' pos h k =
    let x = get_or xs i 0 in
    let lt : x < length now = elim (cases_lt x (length now)) [ inl l ↦ l | inr le ↦ let z : get_or now x 0 ≡ 0 = get_or_past now x 0 le in absurd (omega arith) ] in
    elim (cases_eq k x) [
      | inl e ↦ rw e (let s = get_or-set_same now x (get_or now x 0 - 1) 0 lt in omega (arith, s, h x, more_same xs i in'))
      | inr n ↦ rw (get_or-set_other now x k (get_or now x 0 - 1) 0 n, more_other xs i k in' n) (h k)
    ]

pub reset_more : (old now xs : List ℕ) (i : ℕ) → i < length xs → get_or xs i 0 < length now → ((k : ℕ) → get_or now k 0 ≡ cond {A = ℕ} (ltb 0 (times (take i xs) k)) 0 (get_or old k 0))
    → (k : ℕ) → get_or (set now (get_or xs i 0) 0) k 0 ≡ cond {A = ℕ} (ltb 0 (times (take (i + 1) xs) k)) 0 (get_or old k 0)
reset_more old now xs i in' lt h k =
    let x = get_or xs i 0 in
    elim (cases_eq k x) [
      | inl e ↦
          let pos : ltb 0 (times (take (i + 1) xs) k) ≡ true = lt-ltb 0 (times (take (i + 1) xs) k) (let m = more_same xs i in' in let q = ap (times (take (i + 1) xs)) e in omega (arith, m, q)) in
          ap (λ w. get_or (set now x 0) w 0) e ∙ get_or-set_same now x 0 0 lt ∙ sym (ap (λ b. cond {A = ℕ} b 0 (get_or old k 0)) pos)
      | inr n ↦ get_or-set_other now x k 0 0 n ∙ h k ∙ ap (λ y. cond {A = ℕ} (ltb 0 y) 0 (get_or old k 0)) (sym (more_other xs i k in' n))
    ]
