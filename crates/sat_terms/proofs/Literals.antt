-- Laws of literals. They say all that is known of codes: no proof above this crate opens `neg`, `var_of` and their kin.
use Rattle.std.proofs.Common.{◌≡◌, ℕ, ◌+◌, ◌%◌, ◌⊎◌, inl, inr, arith}
use Rattle.std.proofs.lemmas.Bool.{cases_eq}
use Rattle.sat_terms.specs.Literal.{neg, var_of, pos_lit, neg_lit}

-- the two forms of a literal
pub neg_cases : (l : ℕ) → ((l % 2 ≡ 0) × (neg l ≡ l + 1)) ⊎ ((l % 2 ≡ 1) × (neg l + 1 ≡ l))
unfolding neg
neg_cases l =
    elim (cases_eq (l % 2) 0) [ inl h ↦ inl (h, omega arith) | inr h ↦ inr (omega arith, omega arith) ]

pub neg-neg : (l : ℕ) → neg (neg l) ≡ l
unfolding neg
neg-neg l = omega arith

pub neg-other : (l : ℕ) → neg l ≡ l → ⊥
unfolding neg
neg-other l h = omega arith

pub var_of-neg : (l : ℕ) → var_of (neg l) ≡ var_of l
unfolding neg var_of
var_of-neg l = omega arith

-- two literals of one variable are equal or opposite
pub same_var : (l k : ℕ) → var_of l ≡ var_of k → (l ≡ k) ⊎ (l ≡ neg k)
unfolding neg var_of
same_var l k h = elim (cases_eq l k) [ inl e ↦ inl e | inr n ↦ inr (omega arith) ]

pub var_of-pos_lit : (v : ℕ) → var_of (pos_lit v) ≡ v
unfolding var_of pos_lit
var_of-pos_lit v = omega arith

pub var_of-neg_lit : (v : ℕ) → var_of (neg_lit v) ≡ v
unfolding var_of neg_lit
var_of-neg_lit v = omega arith

pub neg-pos_lit : (v : ℕ) → neg (pos_lit v) ≡ neg_lit v
unfolding neg neg_lit pos_lit
neg-pos_lit v = omega arith

pub neg-neg_lit : (v : ℕ) → neg (neg_lit v) ≡ pos_lit v
unfolding neg neg_lit pos_lit
neg-neg_lit v = omega arith
