-- The digits of a number, from the last one on.
use Rattle.std.proofs.Common.{◌≡◌, ◌∙◌, ap, refl, arith, ⊎_elim, ℕ, zero, suc, ◌+◌, ◌-◌, ◌*◌, ◌/◌, ◌%◌, ◌^◌, ◌<◌, ◌≤◌, List, [], ◌∷◌, ◌++◌}
use Rattle.std.specs.Fmt.{decimal}
use Rattle.std.proofs.Math.Nat.{pow-suc}
use Rattle.std.proofs.lemmas.Bool.{cases_lt}
use Rattle.std.proofs.lemmas.Fmt.{decimal_digit, decimal_step}

-- the digits of a number above 0, and none of 0
abbrev pub front_digits : ℕ → List ℕ
front_digits zero = []
front_digits (suc n) = decimal (suc n)

front_small : (n : ℕ) → 0 < n → n < 10 → front_digits n ≡ front_digits (n / 10) ++ (48 + n % 10) ∷ []
front_small zero some small = absurd (omega arith)
front_small (suc n) some small =
    let none : suc n / 10 ≡ 0 = omega arith in
    let same : suc n % 10 ≡ suc n = omega arith in
    decimal_digit (suc n) small ∙ rw (none, same) refl

front_large : (n m : ℕ) → 10 ≤ n → n < 2 ^ 64 → n / 10 ≡ suc m → front_digits n ≡ front_digits (n / 10) ++ (48 + n % 10) ∷ []
front_large zero m large fits is = absurd (omega arith)
front_large (suc n) m large fits is = decimal_step (suc n) large fits ∙ ap (λ d. d ++ (48 + suc n % 10) ∷ []) (rw is refl)

some_tenth : (n k : ℕ) → 10 ≤ n → n / 10 ≡ k → (m : ℕ) × (n / 10 ≡ suc m)
some_tenth n zero large is = absurd (omega arith)
some_tenth n (suc m) large is = (m, is)

-- the last digit is taken off
pub front_step : (n : ℕ) → 0 < n → n < 2 ^ 64 → front_digits n ≡ front_digits (n / 10) ++ (48 + n % 10) ∷ []
front_step n some fits = ⊎_elim
    (λ (small : n < 10). front_small n some small)
    (λ (large : 10 ≤ n). let m = some_tenth n (n / 10) large refl in front_large n m.0 large fits m.1)
    (cases_lt n 10)

-- where a number is below a power of ten, its tenth is below the power before
pub below_power : (n at : ℕ) → 0 < n → n < 10 ^ at → (0 < at) × (n / 10 < 10 ^ (at - 1))
below_power n zero some below = absurd (omega arith)
below_power n (suc k) some below =
    let e : 10 ^ suc k ≡ 10 ^ k * 10 = pow-suc 10 k in
    let same : suc k - 1 ≡ k = omega arith in
    let h : n / 10 < 10 ^ k = omega (arith, e) in
    (omega arith, rw same h)

-- the digits of any number begin so
pub decimal_front : (n : ℕ) → n < 2 ^ 64 → decimal n ≡ front_digits (n / 10) ++ (48 + n % 10) ∷ []
decimal_front zero fits = decimal_digit 0 (omega arith)
decimal_front (suc n) fits = front_step (suc n) (omega arith) fits
