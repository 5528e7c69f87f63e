-- Places on a seen trail, and lists that are built in a loop.
use Rattle.std.proofs.Common.{◌≡◌, ◌≢◌, ◌⊎◌, ℕ, zero, suc, ◌+◌, ◌-◌, ◌<◌, ◌≤◌, Bool, true, false, not, ◌&&◌, cond, eqb, ltb, List, [], ◌∷◌, ◌++◌, length, take, get_or, Option, Some, None, All, inl, inr, refl, sym, ap, ◌∙◌, subst, arith, append_assoc}
use Rattle.std.specs.Prelude.{slice_get, option_map}
use Rattle.std.specs.List.{filter, count_by}
use Rattle.std.proofs.lemmas.Bool.{cases_eq, cases_lt, cases_Bool, eq-eqb, ne_eqb, and_parts, or_cases, eqb-true, false≢true}
use Rattle.std.proofs.lemmas.List.{get_or_read, append-nil}
use Rattle.std.proofs.lemmas.List.Elements.{filter_more}
use Rattle.sat_terms.specs.Literal.{has, var_of}
use Rattle.sat_terms.proofs.Members.{has-append_cases}
use Rattle.sat_model.specs.declared.constraint.Constraint.{Constraint}
use Rattle.user_propagator.specs.Board.{Board, entry, trail_value, trail_place}
use Rattle.user_propagator.specs.Meaning.{AreObserved}
use Rattle.user_propagator.specs.declared.seen.Seen.{Seen}
use Rattle.card_propagator.specs.declared.told.Told.{Told}
use Rattle.clause_store.specs.Listing.{times}
use Rattle.card_propagator.specs.Values.{told_value, is_false}
use Rattle.card_propagator.specs.Following.{first_told, is_untold, are_apart}
use Rattle.card_propagator.specs.Counting.{rule}
use Rattle.card_propagator.proofs.Valuing.{seen_value, told_of, is_untold_None}

-- a place behind the first one
suc_some : (o : Option ℕ) (at : ℕ) → option_map suc o ≡ Some at → (b : ℕ) × (o ≡ Some b) × (at ≡ suc b)
suc_some None at h = absurd (let q : None ≡ Some at = h in cc)
suc_some (Some b) at h = (b, refl, (let q : Some (suc b) ≡ Some at = h in cc))

suc_none : (o : Option ℕ) → option_map suc o ≡ None → o ≡ None
suc_none None h = refl
suc_none (Some b) h = absurd (let q : Some (suc b) ≡ None = h in cc)

-- what was told of a variable before a place
first_before : (seen : List Seen) (v p at : ℕ) → trail_place seen v ≡ Some at → at < p → first_told (take p seen) v ≡ first_told seen v
first_before [] v p at h lt = absurd (let q : None ≡ Some at = h in cc)
first_before (e ∷ es) v zero at h lt = absurd (omega arith)
first_before (e ∷ es) v (suc p) at h lt =
    elim (cases_eq (var_of e.lit) v) [
      | inl s ↦ rw (eq-eqb (var_of e.lit) v s) refl
      | inr n ↦ let q = suc_some (trail_place es v) at (rw (ne_eqb (var_of e.lit) v n) at h) in rw (ne_eqb (var_of e.lit) v n) (first_before es v p q.0 q.1 (omega (arith, q.2)))
    ]

first_late : (seen : List Seen) (v p at : ℕ) → trail_place seen v ≡ Some at → p ≤ at → first_told (take p seen) v ≡ None
first_late [] v p at h le = absurd (let q : None ≡ Some at = h in cc)
first_late (e ∷ es) v zero at h le = refl
first_late (e ∷ es) v (suc p) at h le =
    elim (cases_eq (var_of e.lit) v) [
      | inl s ↦ let z : Some 0 ≡ Some at = rw (eq-eqb (var_of e.lit) v s) at h in let y : 0 ≡ at = cc in absurd (omega (arith, y))
      | inr n ↦ let q = suc_some (trail_place es v) at (rw (ne_eqb (var_of e.lit) v n) at h) in rw (ne_eqb (var_of e.lit) v n) (first_late es v p q.0 q.1 (omega (arith, q.2)))
    ]

first_never : (seen : List Seen) (v p : ℕ) → trail_place seen v ≡ None → first_told (take p seen) v ≡ None
first_never [] v zero h = refl
first_never [] v (suc p) h = refl
first_never (e ∷ es) v zero h = refl
first_never (e ∷ es) v (suc p) h =
    elim (cases_eq (var_of e.lit) v) [
      | inl s ↦ absurd (let z : Some 0 ≡ None = rw (eq-eqb (var_of e.lit) v s) at h in cc)
      | inr n ↦ rw (ne_eqb (var_of e.lit) v n) (first_never es v p (suc_none (trail_place es v) (rw (ne_eqb (var_of e.lit) v n) at h)))
    ]

pub before_lt : (seen : List Seen) (l p at : ℕ) → trail_place seen (var_of l) ≡ Some at → at < p → trail_value (take p seen) l ≡ trail_value seen l
before_lt seen l p at h lt = seen_value (take p seen) l ∙ ap (λ o. told_value o l) (first_before seen (var_of l) p at h lt) ∙ sym (seen_value seen l)

pub before_ge : (seen : List Seen) (l p at : ℕ) → trail_place seen (var_of l) ≡ Some at → p ≤ at → trail_value (take p seen) l ≡ None
before_ge seen l p at h le = seen_value (take p seen) l ∙ ap (λ o. told_value o l) (first_late seen (var_of l) p at h le)

pub before_none : (seen : List Seen) (l p : ℕ) → trail_place seen (var_of l) ≡ None → trail_value (take p seen) l ≡ None
before_none seen l p h = seen_value (take p seen) l ∙ ap (λ o. told_value o l) (first_never seen (var_of l) p h)

-- the place of a literal on a trail that names each variable once
has_first : (seen : List Seen) (k l : ℕ) → k < length seen → (entry seen k).lit ≡ l → first_told seen (var_of l) ≡ None → ⊥
has_first [] k l lt s h = absurd (omega arith)
has_first (e ∷ es) zero l lt s h = let q : ◌≡◌ {A = Option Told} (Some (told_of e)) None = rw (eq-eqb (var_of e.lit) (var_of l) (ap var_of s)) at h in cc
has_first (e ∷ es) (suc k) l lt s h =
    elim (cases_eq (var_of e.lit) (var_of l)) [
      | inl y ↦ let q : ◌≡◌ {A = Option Told} (Some (told_of e)) None = rw (eq-eqb (var_of e.lit) (var_of l) y) at h in cc
      | inr n ↦ has_first es k l (omega arith) s (rw (ne_eqb (var_of e.lit) (var_of l) n) at h)
    ]

place_at : (seen : List Seen) (k l : ℕ) → are_apart seen ≡ true → k < length seen → (entry seen k).lit ≡ l → trail_place seen (var_of l) ≡ Some k
place_at [] k l a lt s = absurd (omega arith)
place_at (e ∷ es) zero l a lt s = rw (eq-eqb (var_of e.lit) (var_of l) (ap var_of s)) refl
place_at (e ∷ es) (suc k) l a lt s =
    let p = and_parts (is_untold (first_told es (var_of e.lit))) (are_apart es) a in
    elim (cases_eq (var_of e.lit) (var_of l)) [
      | inl q ↦ absurd (has_first es k l (omega arith) s (ap (first_told es) (sym q) ∙ is_untold_None (first_told es (var_of e.lit)) p.0))
      | inr n ↦ rw (ne_eqb (var_of e.lit) (var_of l) n, place_at es k l p.1 (omega arith) s) refl
    ]

pub place_is : (seen : List Seen) (k l at : ℕ) → are_apart seen ≡ true → k < length seen → (entry seen k).lit ≡ l → trail_place seen (var_of l) ≡ Some at → at ≡ k
place_is seen k l at a lt s h = let q : Some at ≡ Some k = sym h ∙ place_at seen k l a lt s in cc

pub no_place : (seen : List Seen) (k l : ℕ) → are_apart seen ≡ true → k < length seen → (entry seen k).lit ≡ l → trail_place seen (var_of l) ≡ None → ⊥
no_place seen k l a lt s h = let q : Some k ≡ None = sym (place_at seen k l a lt s) ∙ h in cc

-- lists that grow by what passes
pub pushed : (p : ℕ → Bool) (xs : List ℕ) (i x : ℕ) (old new : List ℕ) → i < length xs → x ≡ get_or xs i x → old ≡ filter p (take i xs) → new ≡ old ++ cond (p x) (x ∷ []) [] → new ≡ filter p (take (i + 1) xs)
pushed p xs i x old new lt read h e =
    e ∙ ap (λ o. o ++ cond (p x) (x ∷ []) []) h ∙ sym (filter_more p xs i x lt ∙ ap (λ y. filter p (take i xs) ++ cond (p y) (y ∷ []) []) (sym read))

pub pushed_behind : (p : ℕ → Bool) (xs : List ℕ) (i x : ℕ) (front old new : List ℕ) → i < length xs → x ≡ get_or xs i x → old ≡ front ++ filter p (take i xs) → new ≡ old ++ cond (p x) (x ∷ []) [] → new ≡ front ++ filter p (take (i + 1) xs)
pushed_behind p xs i x front old new lt read h e =
    e ∙ ap (λ o. o ++ cond (p x) (x ∷ []) []) h ∙ append_assoc front (filter p (take i xs)) (cond (p x) (x ∷ []) []) ∙ ap (λ r. front ++ r) (sym (filter_more p xs i x lt ∙ ap (λ y. filter p (take i xs) ++ cond (p y) (y ∷ []) []) (sym read)))

pub observed_pushed : (b : Board) (old new : List ℕ) (x : ℕ) (t : Bool) → new ≡ old ++ cond t (x ∷ []) [] → AreObserved b old → (t ≡ true → has b.observed (var_of x) ≡ true) → AreObserved b new
observed_pushed b old new x true e a h = rw e record {
  each = λ l k. elim (has-append_cases old (x ∷ []) l k) [
    | inl before ↦ a.each l before
    | inr last ↦ elim (or_cases (eqb x l) false last) [
      | inl y ↦ subst (λ (z : ℕ). has b.observed (var_of z) ≡ true) (eqb-true x l y) (h refl)
      | inr z ↦ absurd (false≢true z)
    ]
  ];
}
observed_pushed b old new x false e a h = rw (e, append-nil) a

pub get_rule : (rules : List Constraint) (k : ℕ) (r : Constraint) → slice_get rules k ≡ Some r → rule rules k ≡ r
get_rule [] k r h = cc
get_rule (x ∷ rs) zero r h = cc
get_rule (x ∷ rs) (suc k) r h = get_rule rs k r h
