-- Laws of those that wait.
use Rattle.std.proofs.Common.{◌≡◌, ℕ, ◌+◌, ◌<◌, Bool, true, false, ◌||◌, cond, eqb, List, [], ◌∷◌, length, inl, inr, refl, sym, ap, ◌∙◌, arith}
use Rattle.std.proofs.lemmas.Bool.{cases_eq, eq-eqb, ne_eqb, or_parts, or_left, or_right}
use Rattle.sat_terms.specs.Literal.{has}
use Rattle.clause_store.specs.Listing.{times}
use Rattle.clause_store.proofs.Counts.{times-cons}

-- a member of a list stands there, and what is no member does not
pub times_some : (ids : List ℕ) (id : ℕ) → has ids id ≡ true → 0 < times ids id
times_some [] id h = cc
times_some (x ∷ ids) id h =
    elim (cases_eq x id) [
      | inl e ↦ let one : ◌≡◌ {A = ℕ} (cond (eqb x id) 1 0) 1 = ap (λ b. cond {A = ℕ} b 1 0) (eq-eqb x id e) in omega (arith, times-cons x ids id, one)
      | inr n ↦
          let rest : has ids id ≡ true = sym (ap (λ b. b || has ids id) (ne_eqb x id n)) ∙ h in
          omega (arith, times-cons x ids id, times_some ids id rest)
    ]

pub times_none : (ids : List ℕ) (id : ℕ) → has ids id ≡ false → times ids id ≡ 0
times_none [] id h = refl
times_none (x ∷ ids) id h =
    let p = or_parts (eqb x id) (has ids id) h in
    let zero : ◌≡◌ {A = ℕ} (cond (eqb x id) 1 0) 0 = ap (λ b. cond {A = ℕ} b 1 0) p.0 in
    omega (arith, times-cons x ids id, zero, times_none ids id p.1)
