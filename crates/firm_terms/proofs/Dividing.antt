-- What the product says of the quotient.
use Rattle.std.proofs.Common.{◌≡◌, ℕ, ◌+◌, ◌*◌, ◌/◌, ◌%◌, ◌<◌, ◌≤◌, inl, inr, arith}
use Rattle.std.proofs.lemmas.Bool.{cases_lt}
use Rattle.std.proofs.Math.Nat.{mul-le-mul_left}

pub div_below : (b d g : ℕ) → 0 < d → b < d * (g + 1) → b / d ≤ g
div_below b d g pos h =
    elim (cases_lt g (b / d)) [
      | inl lt ↦
          (let u : g + 1 ≤ b / d = omega arith in
          let m : d * (g + 1) ≤ d * (b / d) = mul-le-mul_left d u in
          let e : d * (b / d) + b % d ≡ b = omega arith in
          absurd (omega (arith, m, e, h)))
      | inr le ↦ le
    ]
