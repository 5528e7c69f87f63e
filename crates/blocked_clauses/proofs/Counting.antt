-- The steps against the marked literals and the clauses that were parked.
use Rattle.std.proofs.Common.{◌≡◌, ℕ, ◌+◌, ◌-◌, ◌*◌, ◌/◌, ◌%◌, ◌<◌, ◌≤◌, max, inl, inr, arith}
use Rattle.std.proofs.lemmas.Bool.{cases_lt}
use Rattle.std.proofs.Math.Nat.{mul-le-mul_left}

-- With m clauses and n literals at the start, w0 of these marked, and so many clauses parked, the steps and what is still marked, by m + 1
-- each, are within w0 and n for each of these clauses, by m + 1 each.
abbrev pub Within : ℕ → ℕ → ℕ → ℕ → ℕ → ℕ → Type 0
Within m n w0 parked marked steps = steps + marked * (m + 1) ≤ (w0 + n * parked) * (m + 1)

-- the steps of a search on a literal that o clauses hold, and q its negation
most_by : (m o q : ℕ) → q ≤ m → o * max 1 q ≤ o * (m + 1)
most_by m o q le = mul-le-mul_left o (omega arith)

pub within_start : (m n w : ℕ) → Within m n w (m - m) w 0
within_start m n w =
    let z : m - m ≡ 0 = omega arith in
    rw z (grind arith)

-- a literal whose mark was taken off
pub spent_settled : (m w w' o q a b : ℕ) → w' + o ≤ w → q ≤ m → b ≤ a + o * max 1 q → b + w' * (m + 1) ≤ a + w * (m + 1)
spent_settled m w w' o q a b less le few =
    let x = most_by m o q le in
    let y : w' * (m + 1) + o * (m + 1) ≤ w * (m + 1) = omega (arith, mul-le-mul_left (m + 1) less) in
    omega (arith, x, y, few)

pub spent_parked : (m w o q a b : ℕ) → o ≤ w → q ≤ m → b ≤ a + o * max 1 q → b ≤ a + w * (m + 1)
spent_parked m w o q a b ow le few =
    let x = most_by m o q le in
    let y : o * (m + 1) ≤ w * (m + 1) = omega (arith, mul-le-mul_left (m + 1) ow) in
    omega (arith, x, y, few)

pub spent_full : (m w o q a b : ℕ) → o ≤ w → q ≤ m → b < a + o * max 1 q → b < a + w * (m + 1)
spent_full m w o q a b ow le few =
    let x = most_by m o q le in
    let y : o * (m + 1) ≤ w * (m + 1) = omega (arith, mul-le-mul_left (m + 1) ow) in
    omega (arith, x, y, few)

-- what is spent where now k clauses stand, of m at the start
fewer : (m k w : ℕ) → k ≤ m → w * (k + 1) ≤ w * (m + 1)
fewer m k w le = mul-le-mul_left w (let y : k + 1 ≤ m + 1 = omega arith in y)

spend : (m k w w' a b : ℕ) → k ≤ m → w' ≤ w → b + w' * (k + 1) ≤ a + w * (k + 1) → b + w' * (m + 1) ≤ a + w * (m + 1)
spend m k w w' a b le less h =
    let d : ℕ = m - k in
    let e : m + 1 ≡ (k + 1) + d = omega arith in
    let x : w' * d ≤ w * d = omega (arith, mul-le-mul_left d less) in
    rw e (spread w w' (k + 1) d a b x h) where
      spread : (w w' c d a b : ℕ) → w' * d ≤ w * d → b + w' * c ≤ a + w * c → b + w' * (c + d) ≤ a + w * (c + d)
      spread w w' c d a b x h = grind arith

pub within_walked : (m n w0 p k w w' a b : ℕ) → Within m n w0 p w a → k ≤ m → w' ≤ w → b + w' * (k + 1) ≤ a + w * (k + 1) → Within m n w0 p w' b
within_walked m n w0 p k w w' a b h le less spent = let x = spend m k w w' a b le less spent in omega (arith, h, x)

pub within_parked : (m n w0 p k w w' a b : ℕ) → Within m n w0 p w a → k ≤ m → w' ≤ n → b ≤ a + w * (k + 1) → Within m n w0 (p + 1) w' b
within_parked m n w0 p k w w' a b h le wn spent =
    let x = fewer m k w le in
    let z : w' * (m + 1) ≤ n * (m + 1) = omega (arith, mul-le-mul_left (m + 1) wn) in
    let e : (w0 + n * (p + 1)) * (m + 1) ≡ (w0 + n * p) * (m + 1) + n * (m + 1) = grind arith in
    omega (arith, h, x, z, e, spent)

pub within_full : (m n w0 p k w a b : ℕ) → Within m n w0 p w a → k ≤ m → b < a + w * (k + 1) → b < (w0 + n * p) * (m + 1)
within_full m n w0 p k w a b h le spent = let x = fewer m k w le in omega (arith, h, x, spent)

-- no more literals are marked than there are
pub full_below : (m n w0 p b : ℕ) → w0 ≤ n → b < (w0 + n * p) * (m + 1) → b < (n + 1) * (m + 1) * (p + 1)
full_below m n w0 p b le h =
    let x : (w0 + n * p) * (m + 1) ≤ (n + n * p) * (m + 1) = omega (arith, mul-le-mul_left (m + 1) (let y : w0 + n * p ≤ n + n * p = omega arith in y)) in
    let e : (n + 1) * (m + 1) * (p + 1) ≡ (n + n * p) * (m + 1) + (m + 1) * (p + 1) = grind arith in
    omega (arith, h, x, e)

-- what the product says of the quotient
pub quotient_below : (b d g : ℕ) → 0 < d → b < d * (g + 1) → b / d ≤ g
quotient_below b d g pos h =
    elim (cases_lt g (b / d)) [
      | inl lt ↦
          (let u : g + 1 ≤ b / d = omega arith in
          let m : d * (g + 1) ≤ d * (b / d) = mul-le-mul_left d u in
          let e : d * (b / d) + b % d ≡ b = omega arith in
          absurd (omega (arith, m, e, h)))
      | inr le ↦ le
    ]

-- at most all clauses were parked
pub product_below : (b d g m : ℕ) → b < d * (g + 1) → g ≤ m → b < d * (m + 1)
product_below b d g m h le =
    let k : g + 1 ≤ m + 1 = omega arith in
    let x : d * (g + 1) ≤ d * (m + 1) = mul-le-mul_left d k in
    omega (arith, h, x)

pub product_positive : (n m : ℕ) → 0 < (n + 1) * (m + 1)
product_positive n m = grind arith
