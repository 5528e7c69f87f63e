-- Clauses whose variables rise.
use Rattle.std.proofs.Common.{◌≡◌, ℕ, suc, zero, ◌+◌, ◌-◌, ◌/◌, ◌<◌, ◌≤◌, List, length, get_or, inl, inr, arith, add-one}
use Rattle.std.proofs.lemmas.Bool.{cases_eq, cases_lt}
use Rattle.std.proofs.lemmas.List.{get_or_default, get_or_read}
use Rattle.sat_terms.specs.Literal.{var_of}
use Rattle.sat_terms.specs.Normal.{IsNormal}

-- below a place each variable is below the next
abbrev pub VarsRise : List ℕ → ℕ → Type 0
VarsRise c n = (k : ℕ) → k + 1 < n → k + 1 < length c → var_of (get_or c k 0) < var_of (get_or c (k + 1) 0)

-- then each is below all later ones
vars_rise : (c : List ℕ) → VarsRise c (length c) → (i j : ℕ) → i < j → j < length c → var_of (get_or c i 0) < var_of (get_or c j 0)
vars_rise c rise i zero lt in' = absurd (omega arith)
vars_rise c rise i (suc j) lt in' =
    let last : var_of (get_or c j 0) < var_of (get_or c (j + 1) 0) = rise j (omega arith) (omega arith) in
    elim (cases_eq i j) [
      | inl e ↦ rw e (rw add-one at last)
      | inr n ↦ (let last' = rw add-one at last in let before = vars_rise c rise i j (omega arith) (omega arith) in omega arith)
    ]

-- literals of rising variables rise
lower : (a b : ℕ) → var_of a < var_of b → a < b
unfolding var_of
lower a b lt = omega arith

pub normal_rising : (c : List ℕ) → VarsRise c (length c) → IsNormal c
normal_rising c rise = record {
  rising = λ i j d lt in'. rw (get_or_default c i d 0 (omega arith), get_or_default c j d 0 in') (lower (get_or c i 0) (get_or c j 0) (vars_rise c rise i j lt in'));
  apart = λ i j d lt in'. rw (get_or_default c i d 0 (omega arith), get_or_default c j d 0 in') (λ e. let low = vars_rise c rise i j lt in' in omega arith);
}

-- of two literals that rise and have different variables the variables rise
higher : (a b : ℕ) → a < b → (var_of a ≡ var_of b → ⊥) → var_of a < var_of b
unfolding var_of
higher a b lt apart = elim (cases_lt (a / 2) (b / 2)) [ inl h ↦ h | inr h ↦ absurd (apart (omega arith)) ]

pub rising_normal : (c : List ℕ) (k : ℕ) → IsNormal c → k + 1 < length c → var_of (get_or c k 0) < var_of (get_or c (k + 1) 0)
rising_normal c k n in' = higher (get_or c k 0) (get_or c (k + 1) 0) (n.rising k (k + 1) 0 (omega arith) in') (n.apart k (k + 1) 0 (omega arith) in')

-- a clause whose variables fall from a literal to the next is not normal, as the code reads it
pub falls : (c : List ℕ) (k x y : ℕ) → 0 < k → k < length c → x ≡ get_or c (k - 1) x → y ≡ get_or c k y → var_of y ≤ var_of x → IsNormal c → ⊥
falls c k x y pos in' read read' fall n =
    let e : k - 1 + 1 ≡ k = omega arith in
    let up : var_of (get_or c (k - 1) 0) < var_of (get_or c k 0) = rw e at (rising_normal c (k - 1) n (omega arith)) in
    let a : x ≡ get_or c (k - 1) 0 = get_or_read c (k - 1) x (omega arith) read 0 in
    let b : y ≡ get_or c k 0 = get_or_read c k y in' read' 0 in
    let fall' : var_of (get_or c k 0) ≤ var_of (get_or c (k - 1) 0) = rw (← a, ← b) fall in
    omega arith
