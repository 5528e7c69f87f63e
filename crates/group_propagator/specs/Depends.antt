-- Whether at most one member is true depends on the members alone.
use Rattle.std.specs.Prelude.{ℕ, ◌≡◌, ◌==◌, ◌&&◌, ◌||◌, not, Bool, true, List, [], ◌∷◌, refl}
use Rattle.std.specs.List.{list_all}
use Rattle.std.proofs.Common.{ap, ◌∙◌, eqb}
use Rattle.std.proofs.lemmas.Bool.{eq-eqb, or_left, or_right}
use Rattle.sat_terms.specs.Literal.{has}
use Rattle.sat_terms.specs.Truth.{Assignment}
use Rattle.group_propagator.specs.Group.{no_two}

-- two tests that agree on the members of a list agree on the list
same_all : (p q : ℕ → Bool) (xs : List ℕ) → ((v : ℕ) → has xs v ≡ true → p v ≡ q v) → list_all p xs ≡ list_all q xs
same_all p q [] h = refl
same_all p q (x ∷ xs) h =
    ap (λ b. b && list_all p xs) (h x (or_left (eqb x x) (has xs x) (eq-eqb x x refl)))
    ∙ ap (λ b. q x && b) (same_all p q xs (λ v m. h v (or_right (eqb x v) (has xs v) m)))

pub group_depends : (group : List ℕ) (f g : Assignment) → ((v : ℕ) → has group v ≡ true → f v ≡ g v) → no_two f group ≡ no_two g group
group_depends group f g h =
    same_all (λ u. list_all (λ v. (u == v) || not (f u && f v)) group) (λ u. list_all (λ v. (u == v) || not (g u && g v)) group) group (λ u m.
    same_all (λ v. (u == v) || not (f u && f v)) (λ v. (u == v) || not (g u && g v)) group (λ v n.
    ap (λ b. (u == v) || not (b && f v)) (h u m) ∙ ap (λ b. (u == v) || not (g u && b)) (h v n)))
