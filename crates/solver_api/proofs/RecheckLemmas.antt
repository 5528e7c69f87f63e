-- A model makes all true that was given.
use Rattle.std.proofs.Common.{◌≡◌, ap, cond, refl, arith, ℕ, ◌+◌, Bool, true, List, [], ◌∷◌, length}
use Rattle.std.specs.Prelude.{count_by}
use Rattle.std.specs.List.{list_all}
use Rattle.std.proofs.lemmas.List.Sums.{sum_by-cons}
use Rattle.std.proofs.lemmas.Bool.{and_parts}

-- where all pass, all are counted
pub all_counted : {X : Type 0} (p : X → Bool) (xs : List X) → list_all p xs ≡ true → count_by p xs ≡ length xs
all_counted p [] h = refl
all_counted p (x ∷ xs) h =
    let b = and_parts (p x) (list_all p xs) h in
    let one : count_by p (x ∷ xs) ≡ cond {A = ℕ} (p x) 1 0 + count_by p xs = sum_by-cons (λ y. cond (p y) 1 0) x xs in
    let is : cond {A = ℕ} (p x) 1 0 ≡ 1 = ap (λ t. cond {A = ℕ} t 1 0) b.0 in
    omega (arith, one, is, all_counted p xs b.1)
