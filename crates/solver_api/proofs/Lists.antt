-- The greatest variable, and the empty core.
use Rattle.std.proofs.Common.{◌≡◌, ◌∙◌, sym, ap, refl, subst, arith, inl, inr, ℕ, ◌+◌, ◌<◌, ◌≤◌, List, [], ◌∷◌, length, drop, get_or, zero, suc}
use Rattle.std.specs.Prelude.{All, max, Result, Ok, Err, is_ok, MatchResult}
use Rattle.std.specs.List.Sorted.{IsBinarySearchResult}
use Rattle.std.specs.Ordering.{nat_cmp}
use Rattle.std.proofs.lemmas.Bool.{cases_eq, cases_lt, false_from_ne_true}
use Rattle.std.proofs.lemmas.List.{get_or_default}
use Rattle.std.proofs.lemmas.List.Sorted.{searched}
use Rattle.std.proofs.lemmas.List.Kept.{AllPairs-from_increasing}
use Rattle.normal_form.proofs.Members.{has-from_Contains, Contains-from_has}
use Rattle.solver_api.specs.Held.{IsSortedCopy}
use Rattle.sat_terms.specs.Literal.{has, var_of}
use Rattle.sat_terms.specs.Truth.{Assignment}
use Rattle.sat_terms.specs.Answer.{Within, greatest_var, IsSubsequence, NoModel, IsCore}

-- the first literal of the rest
pub greatest_var-drop : (ls : List ℕ) (i x : ℕ) → i < length ls → x ≡ get_or ls i x → greatest_var (drop i ls) ≡ max (var_of x) (greatest_var (drop (i + 1) ls))
greatest_var-drop [] i x l e = absurd (omega arith)
greatest_var-drop (y ∷ ls) zero x l e = ap (λ v. max (var_of v) (greatest_var ls)) (sym e)
greatest_var-drop (y ∷ ls) (suc i) x l e = let q : suc i + 1 ≡ suc (i + 1) = omega arith in rw q (greatest_var-drop ls i x (omega arith) e)

pub greatest_within : (n : ℕ) (ls : List ℕ) → greatest_var ls ≤ n → All (λ l. 1 ≤ var_of l) ls → Within n ls
greatest_within n ls h positive k d l = (positive k d l, omega (arith, at ls k d l))
  where
    at : (ls : List ℕ) (k d : ℕ) → k < length ls → var_of (get_or ls k d) ≤ greatest_var ls
    at [] k d l = absurd (omega arith)
    at (x ∷ xs) zero d l = omega arith
    at (x ∷ xs) (suc k) d l = omega (arith, at xs k d (omega arith))

nil_part : (ys : List ℕ) → IsSubsequence [] ys
nil_part [] = refl
nil_part (y ∷ ys) = inl (nil_part ys)

-- the empty core, where nothing makes what is given true
pub empty_core : (F : Assignment → Type 0) (assumed core : List ℕ) → core ≡ [] → NoModel F [] → IsCore F assumed core
empty_core F assumed core e none = let P : List ℕ → Type 0 = λ c. IsCore F assumed c in
    subst P (sym e) (record { some = nil_part assumed; once = λ i j d l h. absurd (omega arith); none = none })

-- a search by halves finds what is there
pub found_by_halves : (lits sorted : List ℕ) (x : ℕ) (r : Result ℕ ℕ) → IsSortedCopy lits sorted → IsBinarySearchResult (λ y. nat_cmp y x) sorted r → is_ok r ≡ has lits x
found_by_halves lits sorted x r copy halves = go r (searched sorted x r halves rising) ∙ copy.same x where
  rising : (i j : ℕ) → i ≤ j → j < length sorted → get_or sorted i 0 ≤ get_or sorted j 0
  rising i j le in' =
      elim (cases_eq i j) [
        | inl e ↦ rw e (omega arith)
        | inr n ↦ let lt = AllPairs-from_increasing sorted copy.rising i j 0 (omega arith) in' in omega arith
      ]

  go : (r : Result ℕ ℕ) → MatchResult r (λ i. (i < length sorted) × (get_or sorted i 0 ≡ x)) (λ i. (i ≤ length sorted) × ((k : ℕ) → k < i → get_or sorted k 0 < x) × ((k : ℕ) → i ≤ k → k < length sorted → x < get_or sorted k 0)) → is_ok r ≡ has sorted x
  go (Ok i) h = sym (has-from_Contains sorted x i h.0 (get_or_default sorted i x 0 h.0 ∙ h.1))
  go (Err i) h =
      sym (false_from_ne_true (has sorted x) (λ there.
      let p = Contains-from_has sorted x there in
      let at : get_or sorted p.0 0 ≡ x = get_or_default sorted p.0 0 x p.1 ∙ p.2 in
      elim (cases_lt p.0 i) [
        | inl lt ↦ let low = h.1 p.0 lt in omega arith
        | inr ge ↦ let high = h.2 p.0 ge p.1 in omega arith
      ]))
