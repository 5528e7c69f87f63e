-- Runs in a sorted list.
use Rattle.std.proofs.Common.{◌≡◌, ◌≢◌, ℕ, ◌+◌, ◌<◌, ◌≤◌, Bool, true, false, cond, eqb, zero, suc, Result, Ok, Err, OnOk, is_err, List, [], ◌∷◌, length, get_or, take, min, inl, inr, refl, sym, ap, ◌∙◌, arith}
use Rattle.std.proofs.lemmas.Bool.{cases_eq, cases_lt, eq-eqb, ne_eqb}
use Rattle.std.proofs.lemmas.List.{get_or-take, get_or_default, length-take}
use Rattle.std.proofs.lemmas.List.Sums.{sum_by_more, count_by-le-length}
use Rattle.std.proofs.lemmas.List.Sorted.{sum_by-IsPermutation}
use Rattle.std.specs.List.Sorted.{IsPermutation}
use Rattle.clause_store.specs.Listing.{times}
use Rattle.clause_store.proofs.Counts.{times_place}

one_more : (s : List ℕ) (i x y : ℕ) → i < length s → x ≡ get_or s i 0 → times (take (i + 1) s) y ≡ times (take i s) y + cond {A = ℕ} (eqb x y) 1 0
one_more s i x y lt e = sum_by_more (λ z. cond {A = ℕ} (eqb z y) 1 0) s i 0 lt ∙ ap (λ z. times (take i s) y + cond {A = ℕ} (eqb z y) 1 0) (sym e)

none_before : (s : List ℕ) (i x : ℕ) → i ≤ length s → ((j : ℕ) → j < i → get_or s j 0 ≢ x) → times (take i s) x ≡ 0
none_before s i x le h = elim (cases_lt 0 (times (take i s) x)) [
  | inl pos ↦
      let p = times_place (take i s) x pos in
      let short = length-take i s in
      let within : p.0 < i = omega (arith, p.1, short) in
      absurd (h p.0 within (sym (get_or-take i s p.0 0 within) ∙ p.2))
  | inr z ↦ omega arith
]

pub run_next : (s : List ℕ) (i x last run run' : ℕ) → i < length s → x ≡ get_or s i 0 → run ≡ times (take i s) last → ((j : ℕ) → j < i → get_or s j 0 ≤ last) → last ≤ x → run' ≡ cond (eqb last x) (run + 1) 1 → run' ≡ times (take (i + 1) s) x
run_next s i x last run run' lt e r low le is =
    let more = one_more s i x x lt e in
    let one : cond {A = ℕ} (eqb x x) 1 0 ≡ 1 = ap (λ b. cond {A = ℕ} b 1 0) (eq-eqb x x refl) in
    elim (cases_eq last x) [
      | inl q ↦
          let here : run' ≡ run + 1 = is ∙ ap (λ b. cond {A = ℕ} b (run + 1) 1) (eq-eqb last x q) in
          let was : run ≡ times (take i s) x = r ∙ ap (times (take i s)) q in
          omega (arith, more, one, here, was)
      | inr n ↦
          let here : run' ≡ 1 = is ∙ ap (λ b. cond {A = ℕ} b (run + 1) 1) (ne_eqb last x n) in
          let none = none_before s i x (omega arith) (λ j l q. let b = low j l in n (omega (arith, b, q))) in
          omega (arith, more, one, here, none)
    ]

pub most_next : (s : List ℕ) (i x run' most most' : ℕ) → i < length s → x ≡ get_or s i 0 → run' ≡ times (take (i + 1) s) x → ((y : ℕ) → times (take i s) y ≤ most) → most ≤ most' → run' ≤ most' → (y : ℕ) → times (take (i + 1) s) y ≤ most'
most_next s i x run' most most' lt e r h le le' y =
    elim (cases_eq x y) [
      | inl q ↦ let z : run' ≡ times (take (i + 1) s) y = r ∙ ap (times (take (i + 1) s)) q in omega arith
      | inr n ↦ let z : cond {A = ℕ} (eqb x y) 1 0 ≡ 0 = ap (λ b. cond {A = ℕ} b 1 0) (ne_eqb x y n) in omega (arith, one_more s i x y lt e, z, h y)
    ]

pub run_small : (s : List ℕ) (i last run : ℕ) → i < length s → run ≡ times (take i s) last → run < length s
run_small s i last run lt r = let a = count_by-le-length (λ z. eqb z last) (take i s) in let b = length-take i s in omega (arith, a, b)

take_whole : (s : List ℕ) (n : ℕ) → length s ≤ n → take n s ≡ s
take_whole [] zero h = refl
take_whole [] (suc n) h = refl
take_whole (x ∷ s) zero h = absurd (omega arith)
take_whole (x ∷ s) (suc n) h = ap (λ r. x ∷ r) (take_whole s n (omega arith))

pub most_all : (s : List ℕ) (i most : ℕ) → length s ≤ i → ((x : ℕ) → times (take i s) x ≤ most) → (x : ℕ) → times s x ≤ most
most_all s i most le h x = rw (take_whole s i le) at (h x)

pub ok_then : {A E : Type 0} (r : Result A E) (P : Type 0) → OnOk r P → is_err r ≡ false → P
ok_then (Ok a) P h e = h
ok_then (Err x) P h e = cc

pub times_sorted : (xs ys : List ℕ) (l : ℕ) → IsPermutation xs ys → times ys l ≡ times xs l
times_sorted xs ys l p = sum_by-IsPermutation (λ z. cond {A = ℕ} (eqb z l) 1 0) xs ys p
