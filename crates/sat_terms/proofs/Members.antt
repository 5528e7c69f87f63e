-- Laws of lists that hold a literal.
use Rattle.std.proofs.Common.{◌≡◌, ℕ, suc, zero, ◌+◌, ◌<◌, Bool, true, false, not, ◌||◌, ◌&&◌, eqb, List, [], ◌∷◌, ◌++◌, length, get_or, take, ◌⊎◌, inl, inr, refl, sym, ◌∙◌, subst, arith}
use Rattle.std.specs.Prelude.{filter, All}
use Rattle.std.proofs.lemmas.Bool.{false≢true, cases_eq, or_cases, or_left, or_right, eq-eqb, ne_eqb, eqb-true}
use Rattle.std.proofs.lemmas.List.Folds.{list_any_more}
use Rattle.sat_terms.specs.Literal.{has}

-- membership in an appended list
pub has-append_left : (c d : List ℕ) (l : ℕ) → has c l ≡ true → has (c ++ d) l ≡ true
has-append_left [] d l h = absurd (false≢true h)
has-append_left (x ∷ c) d l h =
    elim (or_cases (eqb x l) (has c l) h) [
      | inl e ↦ or_left (eqb x l) (has (c ++ d) l) e
      | inr h' ↦ or_right (eqb x l) (has (c ++ d) l) (has-append_left c d l h')
    ]

pub has-append_right : (c d : List ℕ) (l : ℕ) → has d l ≡ true → has (c ++ d) l ≡ true
has-append_right [] d l h = h
has-append_right (x ∷ c) d l h = or_right (eqb x l) (has (c ++ d) l) (has-append_right c d l h)

pub has-append_cases : (c d : List ℕ) (l : ℕ) → has (c ++ d) l ≡ true → (has c l ≡ true) ⊎ (has d l ≡ true)
has-append_cases [] d l h = inr h
has-append_cases (x ∷ c) d l h =
    elim (or_cases (eqb x l) (has (c ++ d) l) h) [
      | inl e ↦ inl (or_left (eqb x l) (has c l) e)
      | inr h' ↦
          elim (has-append_cases c d l h') [
            | inl a ↦ inl (or_right (eqb x l) (has c l) a)
            | inr b ↦ inr b
          ]
    ]

-- one literal more is in the front of a clause
pub has_more : (c : List ℕ) (i x l : ℕ) → i < length c → x ≡ get_or c i x → has (take (i + 1) c) l ≡ true → (has (take i c) l ≡ true) ⊎ (x ≡ l)
has_more c i x l in' is h =
    elim (or_cases (has (take i c) l) (eqb x l) (sym (list_any_more (λ y. eqb y l) c i x in' ∙ rw (← is) refl) ∙ h)) [
      | inl a ↦ inl a
      | inr b ↦ inr (eqb-true x l b)
    ]

pub same_tests : (a b : Bool) → (a ≡ true → b ≡ true) → (b ≡ true → a ≡ true) → a ≡ b
same_tests true b f g = sym (f refl)
same_tests false true f g = g refl
same_tests false false f g = refl

-- the literal at a place is a member
pub has_item : (c : List ℕ) (i d : ℕ) → i < length c → has c (get_or c i d) ≡ true
has_item [] i d in' = absurd (omega arith)
has_item (y ∷ c) zero d in' = or_left (eqb y y) (has c y) (eq-eqb y y refl)
has_item (y ∷ c) (suc i) d in' = or_right (eqb y (get_or c i d)) (has c (get_or c i d)) (has_item c i d (omega arith))

pub has_at : (c : List ℕ) (i x : ℕ) → i < length c → x ≡ get_or c i x → has c x ≡ true
has_at c i x in' is = subst (λ y. has c y ≡ true) (sym is) (has_item c i x in')

pub has_taken : (n : ℕ) (c : List ℕ) (l : ℕ) → has (take n c) l ≡ true → has c l ≡ true
has_taken zero c l h = absurd (false≢true h)
has_taken (suc n) [] l h = absurd (false≢true h)
has_taken (suc n) (y ∷ c) l h =
    elim (or_cases (eqb y l) (has (take n c) l) h) [
      | inl e ↦ or_left (eqb y l) (has c l) e
      | inr h' ↦ or_right (eqb y l) (has c l) (has_taken n c l h')
    ]

-- a member stands at a place, so what holds of all holds of it
pub has_place : (c : List ℕ) (l d : ℕ) → has c l ≡ true → (k : ℕ) × (k < length c) × (get_or c k d ≡ l)
has_place [] l d h = absurd (false≢true h)
has_place (x ∷ c) l d h =
    elim (or_cases (eqb x l) (has c l) h) [
      | inl e ↦ (0, omega arith, eqb-true x l e)
      | inr h' ↦
          let r = has_place c l d h' in
          let b = r.1 in
          (suc r.0, omega arith, r.2)
    ]

pub All-has : (P : ℕ → Type 0) (c : List ℕ) (l : ℕ) → All P c → has c l ≡ true → P l
All-has P c l all h = let r = has_place c l 0 h in subst P r.2 (all r.0 0 r.1)

and_false : (b : Bool) → (b && false) ≡ false
and_false true = refl
and_false false = refl

-- the members once one was taken out
pub has_without : (c : List ℕ) (x k : ℕ) → has (filter (λ y. not (eqb y x)) c) k ≡ (has c k && not (eqb k x))
has_without [] x k = refl
has_without (y ∷ c) x k =
    let before = has_without c x k in
    elim (cases_eq y x) [
      | inl e ↦
          rw (eq-eqb y x e)
          (elim (cases_eq k x) [
            | inl q ↦ before ∙ rw (eq-eqb k x q) (and_false (has c k) ∙ sym (and_false (eqb y k || has c k)))
            | inr m ↦ rw (ne_eqb y k (λ q. m (sym q ∙ e))) before
          ])
      | inr n ↦
          rw (ne_eqb y x n)
          (elim (cases_eq y k) [
            | inl q ↦ rw (eq-eqb y k q, ne_eqb k x (λ z. n (q ∙ z))) refl
            | inr m ↦ rw (ne_eqb y k m) before
          ])
    ]
