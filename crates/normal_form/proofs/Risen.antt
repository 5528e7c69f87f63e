-- Literals in rising order, and where opposites stand among them.
use Rattle.std.proofs.Common.{◌≡◌, ◌≢◌, ℕ, ◌+◌, ◌<◌, List, length, get_or, inl, inr, ap, ◌∙◌, arith}
use Rattle.std.specs.List.Sorted.{IsStrictlyIncreasing}
use Rattle.std.proofs.lemmas.Bool.{cases_lt}
use Rattle.std.proofs.lemmas.List.{get_or_default}
use Rattle.std.proofs.lemmas.List.Kept.{AllPairs-from_increasing}
use Rattle.sat_terms.specs.Literal.{neg}
use Rattle.sat_terms.specs.Normal.{IsNormal}
use Rattle.sat_terms.proofs.Literals.{same_var, neg_cases, neg-neg}

-- neighbours below a place are not opposite
abbrev pub NoneOpposite : List ℕ → ℕ → Type 0
NoneOpposite c n = (k : ℕ) → k + 1 < n → k + 1 < length c → neg (get_or c k 0) ≢ get_or c (k + 1) 0

-- a literal and the opposite of a smaller one are neighbours
beside : (a b : ℕ) → a < b → a ≡ neg b → b ≡ a + 1
beside a b lt e =
    elim (neg_cases b) [
      | inl h ↦ absurd (omega (arith, e, h.1))
      | inr h ↦ omega (arith, e, h.1)
    ]

next_to : (c : List ℕ) (i j d : ℕ) → IsStrictlyIncreasing c → i < j → j < length c → get_or c j d ≡ get_or c i d + 1 → j ≡ i + 1
next_to c i j d rises lt in' e =
    elim (cases_lt (i + 1) j) [
      | inl more ↦
          let low = AllPairs-from_increasing c rises i (i + 1) d (omega arith) (omega arith) in
          let high = AllPairs-from_increasing c rises (i + 1) j d more in' in
          absurd (omega (arith, low, high, e))
      | inr le ↦ omega arith
    ]

apart_at : (c : List ℕ) (i j d : ℕ) → IsStrictlyIncreasing c → NoneOpposite c (length c) → i < j → j < length c → get_or c i d ≡ neg (get_or c j d) → ⊥
apart_at c i j d rises none lt in' s =
    let low = AllPairs-from_increasing c rises i j d lt in' in
    let e = next_to c i j d rises lt in' (beside (get_or c i d) (get_or c j d) low s) in
    let in'' : i + 1 < length c = omega arith in
    none i in'' in''
    (ap neg (get_or_default c i 0 d (omega arith) ∙ s) ∙ neg-neg (get_or c j d) ∙ ap (λ k. get_or c k d) e ∙ get_or_default c (i + 1) d 0 in'')

pub normal_from : (c : List ℕ) → IsStrictlyIncreasing c → NoneOpposite c (length c) → IsNormal c
normal_from c rises none = record {
  rising = AllPairs-from_increasing c rises;
  apart = λ i j d lt in' e.
      let low = AllPairs-from_increasing c rises i j d lt in' in
      elim (same_var (get_or c i d) (get_or c j d) e) [
        | inl s ↦ omega (arith, s, low)
        | inr s ↦ apart_at c i j d rises none lt in' s
      ];
}
