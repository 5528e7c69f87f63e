-- Laws of sets of ids that are kept as marks.
use Rattle.std.proofs.Common.{◌≡◌, ℕ, zero, suc, ◌+◌, ◌<◌, Bool, true, false, ◌||◌, not, ◌&&◌, eqb, List, [], ◌∷◌, ◌++◌, refl, sym, ap, ◌∙◌, ◌⊎◌, inl, inr, arith}
use Rattle.std.proofs.lemmas.Bool.{eq-eqb, ne_eqb, true≢false, cases_eq}
use Rattle.std.proofs.lemmas.List.Folds.{list_any-append}
use Rattle.sat_terms.specs.Literal.{has}
use Rattle.watch_lists.specs.Propagation.{marked, ids_from, ids_of}

-- the marked ids from a number on are those with a mark
low : (n : ℕ) (marks : List Bool) (k : ℕ) → k < n → has (ids_from n marks) k ≡ false
low n [] k lt = refl
low n (true ∷ marks) k lt = rw (ne_eqb n k (λ e. absurd (omega arith)), low (suc n) marks k (omega arith)) refl
low n (false ∷ marks) k lt = low (suc n) marks k (omega arith)

from_at : (n : ℕ) (marks : List Bool) (k j : ℕ) → j ≡ n + k → has (ids_from n marks) j ≡ marked marks k
from_at n [] k j is = refl
from_at n (true ∷ marks) zero j is = rw (eq-eqb n j (omega arith)) refl
from_at n (false ∷ marks) zero j is = low (suc n) marks j (omega arith)
from_at n (true ∷ marks) (suc k) j is = rw (ne_eqb n j (λ q. absurd (omega arith))) (from_at (suc n) marks k j (omega arith))
from_at n (false ∷ marks) (suc k) j is = from_at (suc n) marks k j (omega arith)

pub has-ids_of : (marks : List Bool) (k : ℕ) → has (ids_of marks) k ≡ marked marks k
unfolding ids_of
has-ids_of marks k = from_at 0 marks k k (omega arith)

-- where nothing is marked there are no ids
none_from : (n : ℕ) (marks : List Bool) → ((k : ℕ) → marked marks k ≡ false) → ids_from n marks ≡ []
none_from n [] none = refl
none_from n (true ∷ marks) none = absurd (true≢false (none 0))
none_from n (false ∷ marks) none = none_from (suc n) marks (λ k. none (suc k))

pub none_marked : (marks : List Bool) → ((k : ℕ) → marked marks k ≡ false) → ids_of marks ≡ []
unfolding ids_of
none_marked marks none = none_from 0 marks none

flip : (a b : ℕ) → eqb a b ≡ eqb b a
flip a b = elim (cases_eq a b) [ inl e ↦ rw e refl | inr n ↦ ne_eqb a b n ∙ sym (ne_eqb b a (λ e. n (sym e))) ]

-- a mark taken out, by either order of the test
pub taken_out : (old new : List Bool) (id : ℕ) → ((n : ℕ) → marked new n ≡ (marked old n && not (eqb id n))) → (k : ℕ) → marked new k ≡ (marked old k && not (eqb k id))
taken_out old new id less k = less k ∙ ap (λ b. marked old k && not b) (flip id k)

-- members of two lists
pub has-append : (a b : List ℕ) (k : ℕ) → has (a ++ b) k ≡ (has a k || has b k)
has-append a b k = list_any-append (λ x. eqb x k) a b

pub has_both : (marks : List Bool) (ids : List ℕ) (k : ℕ) → has (ids_of marks ++ ids) k ≡ (marked marks k || has ids k)
has_both marks ids k = has-append (ids_of marks) ids k ∙ ap (λ b. b || has ids k) (has-ids_of marks k)

-- marks and ids that are no marks, with one mark more, and without one id
pub one_listed : (old new : List Bool) (ids : List ℕ) (id k : ℕ) → ((j : ℕ) → marked new j ≡ (marked old j || eqb id j)) → has (ids_of new ++ ids) k ≡ (has (ids_of old ++ ids) k || eqb id k)
one_listed old new ids id k more = has_both new ids k ∙ rw (more k, has_both old ids k) (swap (marked old k) (eqb id k) (has ids k)) where
  swap : (a b d : Bool) → ((a || b) || d) ≡ ((a || d) || b)
  swap true b d = refl
  swap false true true = refl
  swap false true false = refl
  swap false false true = refl
  swap false false false = refl

pub without_both : (old new : List Bool) (ids ids' : List ℕ) (id k : ℕ) → ((j : ℕ) → marked new j ≡ (marked old j && not (eqb j id))) → has ids' k ≡ (has ids k && not (eqb k id)) → has (ids_of new ++ ids') k ≡ (has (ids_of old ++ ids) k && not (eqb k id))
without_both old new ids ids' id k less less' = has_both new ids' k ∙ rw (less k, less', has_both old ids k) (join (marked old k) (has ids k) (not (eqb k id))) where
  join : (a b d : Bool) → ((a && d) || (b && d)) ≡ ((a || b) && d)
  join true b true = refl
  join true true false = refl
  join true false false = refl
  join false true d = refl
  join false false d = refl
