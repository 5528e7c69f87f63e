-- The value of a literal by its variable.
use Rattle.std.proofs.Common.{◌≡◌, ◌∙◌, sym, ap, refl, arith, eqb, ℕ, ◌+◌, ◌-◌, ◌%◌, ◌<◌, ◌≤◌, Bool, true, false, List, [], ◌∷◌, length, inl, inr, ⊎_elim, subst, Some, None, get_or, set, replicate, zero, suc}
use Rattle.std.specs.Prelude.{sum_by, is_none, unwrap_or, min}
use Rattle.sat_terms.specs.Truth.{Assignment, values, lit_true}
use Rattle.std.proofs.lemmas.List.Sums.{sum_by-set, sum_by-cons}
use Rattle.std.specs.Prelude.{not, ◌≢◌}
use Rattle.std.specs.declared.option.Option.{Option}
use Rattle.std.proofs.lemmas.Bool.Decides.{eqb_tells}
use Rattle.std.proofs.lemmas.Grind.{get_or-set_at}
use mathlib.Core.Bool.{beq}
use Rattle.std.specs.Prelude.{reverse, ◌++◌}
use Rattle.std.proofs.lemmas.List.{reverse-append, get_or_read, get_or-set_other, set-set, set-get_or, length-set, length-replicate, get_or-replicate}
use Rattle.sat_terms.specs.Literal.{var_of, neg, pos_lit}
use Rattle.sat_terms.proofs.Literals.{neg_cases, var_of-neg, same_var, var_of-pos_lit}
use Rattle.sat_terms.proofs.Models.{values_at, lit_true_pos, lit_true_neg}
use Rattle.plain_search.specs.declared.assignment.Step.{Step}
use Rattle.plain_search.specs.Steps.{value_in}
use Rattle.plain_search.specs.Marks.{positive, marks, Fresh, Mirrors, Full}
use Rattle.plain_search.specs.Search.{Agrees}

pub length-marks : (n : ℕ) (steps : List Step) → length (marks n steps) ≡ n
length-marks n [] = length-replicate n None
length-marks n (s ∷ older) = length-set (marks n older) (var_of s.lit) (Some (positive s.lit)) ∙ length-marks n older

-- the value of a literal of this sign whose variable has this value
abbrev pub read : Bool → Option Bool → Option Bool
read sign None = None
read sign (Some value) = Some (beq value sign)

unread : (b : Bool) (o : Option Bool) → read b o ≡ None → o ≡ None
unread b None e = refl
unread b (Some x) e = cc

read_same : (b : Bool) → read b (Some b) ≡ Some true
read_same true = refl
read_same false = refl

read_opposite : (b : Bool) → read b (Some (not b)) ≡ Some false
read_opposite true = refl
read_opposite false = refl

-- the opposite literal has the other sign
positive-neg : (l : ℕ) → positive (neg l) ≡ not (positive l)
positive-neg l = elim (neg_cases l) [
  | inl e ↦ let odd : (neg l) % 2 ≡ 1 = omega (arith, e.0, e.1) in rw (odd, e.0) refl
  | inr e ↦ let even : (neg l) % 2 ≡ 0 = omega (arith, e.0, e.1) in rw (even, e.0) refl
]

-- the value where it was set
here : (n : ℕ) (s : Step) (older : List Step) (l : ℕ) → var_of s.lit < n → var_of l ≡ var_of s.lit → get_or (marks n (s ∷ older)) (var_of l) None ≡ Some (positive s.lit)
here n s older l h e = get_or-set_at (marks n older) (var_of s.lit) (var_of l) (Some (positive s.lit)) None e (omega (arith, length-marks n older))

-- a literal has the value that its variable has
pub value_in-marks : (n : ℕ) (steps : List Step) (l : ℕ) → Fresh n steps → var_of l < n → value_in steps l ≡ read (positive l) (get_or (marks n steps) (var_of l) None)
value_in-marks n [] l f h = rw get_or-replicate refl
value_in-marks n (s ∷ older) l f h = ⊎_elim
    (λ (t : (eqb s.lit l ≡ true) × (s.lit ≡ l)).
    rw t.0 (sym (ap (read (positive l)) (here n s older l f.0 (ap var_of (sym t.1)) ∙ ap (λ x. Some (positive x)) t.1) ∙ read_same (positive l))))
    (λ (e : (eqb s.lit l ≡ false) × (s.lit ≢ l)). ⊎_elim
    (λ (t : (eqb s.lit (neg l) ≡ true) × (s.lit ≡ neg l)).
    rw (e.0, t.0) (sym (ap (read (positive l)) (here n s older l f.0 (sym (var_of-neg l) ∙ ap var_of (sym t.1))
    ∙ ap (λ x. Some (positive x)) t.1 ∙ ap (λ b. Some b) (positive-neg l)) ∙ read_opposite (positive l))))
    (λ (d : (eqb s.lit (neg l) ≡ false) × (s.lit ≢ neg l)).
    let other : var_of l ≢ var_of s.lit = λ v. ⊎_elim e.1 d.1 (same_var s.lit l (sym v)) in
    rw (e.0, d.0) (value_in-marks n older l f.2 h
    ∙ ap (read (positive l)) (sym (get_or-set_other (marks n older) (var_of s.lit) (var_of l) (Some (positive s.lit)) None other))))
    (eqb_tells s.lit (neg l)))
    (eqb_tells s.lit l)

-- what has no value has a variable without one
pub free_var : (n : ℕ) (steps : List Step) (l : ℕ) → Fresh n steps → var_of l < n → value_in steps l ≡ None → get_or (marks n steps) (var_of l) None ≡ None
free_var n steps l f h e = unread (positive l) (get_or (marks n steps) (var_of l) None) (sym (value_in-marks n steps l f h) ∙ e)

-- the newest is taken back
pub marks_back : (n : ℕ) (s : Step) (older : List Step) → Fresh n (s ∷ older) → set (marks n (s ∷ older)) (var_of s.lit) None ≡ marks n older
marks_back n s older f = set-set (marks n older) (var_of s.lit) (Some (positive s.lit)) None ∙ ap (set (marks n older) (var_of s.lit)) (sym f.1) ∙ set-get_or (marks n older) (var_of s.lit) None

-- the value of a literal, by its variable
pub value_at : {n : ℕ} {values : List (Option Bool)} {steps : List Step} → Mirrors n values steps → (l : ℕ) → var_of l < n
    → value_in steps l ≡ read (positive l) (get_or values (var_of l) None)
value_at {n} {values} {steps} m l h = value_in-marks n steps l m.fresh h ∙ ap (λ xs. read (positive l) (get_or xs (var_of l) None)) (sym m.same)

pub length-values : {n : ℕ} {values : List (Option Bool)} {steps : List Step} → Mirrors n values steps → length values ≡ n
length-values {n} {values} {steps} m = ap length m.same ∙ length-marks n steps

-- what a look at a variable tells of a literal
pub reads : {n : ℕ} {values : List (Option Bool)} {steps : List Step} → Mirrors n values steps → (l i : ℕ) (x : Option Bool) → i ≡ var_of l → var_of l < n
    → x ≡ get_or values i x → value_in steps l ≡ read (positive l) x
reads {n} {values} {steps} m l i x q h is =
    let size : i < length values = omega (arith, length-values m) in
    value_at m l h ∙ ap (read (positive l)) (sym (get_or_read values i x size is None ∙ ap (λ k. get_or values k None) q))

pub has_value : {n : ℕ} {values : List (Option Bool)} {steps : List Step} → Mirrors n values steps → (l : ℕ) → var_of l < n
    → get_or values (var_of l) None ≢ None → value_in steps l ≢ None
has_value {n} {values} {steps} m l h some is = some (unread (positive l) (get_or values (var_of l) None) (sym (value_at m l h) ∙ is))

-- a literal is assigned
pub pushed : {n : ℕ} {values : List (Option Bool)} (trail : List Step) → Mirrors n values (reverse trail) → (trail' : List Step) (step : Step) (i : ℕ) (b : Bool)
    → trail' ≡ trail ++ step ∷ [] → i ≡ var_of step.lit → b ≡ positive step.lit → 1 ≤ var_of step.lit
    → value_in (reverse trail) step.lit ≡ None → var_of step.lit < n → Mirrors n (set values i (Some b)) (reverse trail')
pushed {n} {values} trail m trail' step i b t q sign one free h =
    let r : reverse trail' ≡ step ∷ reverse trail = ap reverse t ∙ reverse-append trail (step ∷ []) in
    let other : zero ≢ i = omega arith in
    record {
      same = rw (r, q, sign, m.same) refl;
      fresh = rw r (h, free_var n (reverse trail) step.lit m.fresh h free, m.fresh);
      some = m.some;
      few = m.few;
      zero_free = get_or-set_other values i zero (Some b) None other ∙ m.zero_free;
    }

-- the newest is taken back
pub popped : {n : ℕ} {values : List (Option Bool)} (trail : List Step) → Mirrors n values (reverse trail) → (trail' : List Step) (step : Step) (i : ℕ)
    → trail ≡ trail' ++ step ∷ [] → i ≡ var_of step.lit → 1 ≤ var_of step.lit → Mirrors n (set values i None) (reverse trail')
popped {n} {values} trail m trail' step i t q one =
    let r : reverse trail ≡ step ∷ reverse trail' = ap reverse t ∙ reverse-append trail' (step ∷ []) in
    let P : List Step → Type 0 = λ xs. Fresh n xs in
    let fresh : Fresh n (step ∷ reverse trail') = subst P r m.fresh in
    let other : zero ≢ i = omega arith in
    record {
      same = ap (λ xs. set xs i None) (m.same ∙ ap (marks n) r) ∙ ap (λ k. set (marks n (step ∷ reverse trail')) k None) q ∙ marks_back n step (reverse trail') fresh;
      fresh = fresh.2;
      some = m.some;
      few = m.few;
      zero_free = get_or-set_other values i zero None None other ∙ m.zero_free;
    }

-- the truth of a literal by its sign
signed : (f : Assignment) (l : ℕ) (v : Bool) → read (positive l) (Some (f (var_of l))) ≡ Some v → lit_true f l ≡ v
signed f l v e = either (positive l) refl e
  where
    either : (b : Bool) → positive l ≡ b → read b (Some (f (var_of l))) ≡ Some v → lit_true f l ≡ v
    either true is e = lit_true_pos f l is ∙ same (f (var_of l)) e
      where
        same : (x : Bool) → read true (Some x) ≡ Some v → x ≡ v
        same true e = cc
        same false e = cc
    either false is e = lit_true_neg f l is ∙ other (f (var_of l)) e
      where
        other : (x : Bool) → read false (Some x) ≡ Some v → not x ≡ v
        other true e = cc
        other false e = cc

-- what the newest step gave a value had none before
pub was_free : {n : ℕ} {values : List (Option Bool)} (trail : List Step) → Mirrors n values (reverse trail) → (trail' : List Step) (step : Step)
    → trail ≡ trail' ++ step ∷ [] → (var_of step.lit ≤ n - 1) × (value_in (reverse trail') step.lit ≡ None)
was_free {n} {values} trail m trail' step t =
    let r : reverse trail ≡ step ∷ reverse trail' = ap reverse t ∙ reverse-append trail' (step ∷ []) in
    let P : List Step → Type 0 = λ xs. Fresh n xs in
    let fresh : Fresh n (step ∷ reverse trail') = subst P r m.fresh in
    (omega (arith, fresh.0), value_in-marks n (reverse trail') step.lit fresh.2 fresh.0 ∙ ap (read (positive step.lit)) fresh.1)

is_none_None : (o : Option Bool) → is_none o ≡ true → o ≡ None
is_none_None None e = refl
is_none_None (Some b) e = cc

-- a variable that has no value
pub free_at : {n : ℕ} {values : List (Option Bool)} {steps : List Step} → Mirrors n values steps → (at : ℕ) (x : Option Bool) → at < n
    → x ≡ get_or values at x → is_none x ≡ true → value_in steps (pos_lit at) ≡ None
free_at {n} {values} {steps} m at x h is free =
    let v : var_of (pos_lit at) ≡ at = var_of-pos_lit at in
    reads m (pos_lit at) at x (sym v) (omega (arith, v)) is ∙ ap (read (positive (pos_lit at))) (is_none_None x free)

from_value : (b : Bool) (o : Option Bool) (v : Bool) → read b o ≡ Some v → o ≡ Some (unwrap_or o true)
from_value b None v e = cc
from_value b (Some x) v e = refl

-- a model that has the values of the variables makes what is true on the trail true
pub model_agrees : {n : ℕ} {marked : List (Option Bool)} {steps : List Step} → Mirrors n marked steps → (model : List Bool)
    → ((k : ℕ) → k + 1 < n → get_or model k false ≡ unwrap_or (get_or marked (k + 1) None) true)
    → Agrees (values model) (n - 1) steps
model_agrees {n} {marked} {steps} m model same l h is =
    let some = m.some in
    let at : read (positive l) (get_or marked (var_of l) None) ≡ Some true = sym (value_at m l (omega arith)) ∙ is in
    let has : get_or marked (var_of l) None ≡ Some (unwrap_or (get_or marked (var_of l) None) true) = from_value (positive l) (get_or marked (var_of l) None) true at in
    let one : 0 < var_of l = above_zero (var_of l) (λ z. absent (ap (λ v. get_or marked v None) (sym z) ∙ has)) in
    let back : var_of l - 1 + 1 ≡ var_of l = omega arith in
    let value : values model (var_of l) ≡ unwrap_or (get_or marked (var_of l) None) true =
    values_at model (var_of l) one ∙ same (var_of l - 1) (omega arith) ∙ ap (λ v. unwrap_or (get_or marked v None) true) back in
    signed (values model) l true (ap (λ v. read (positive l) (Some v)) value ∙ ap (read (positive l)) (sym has) ∙ at)
  where
    above_zero : (v : ℕ) → (v ≡ 0 → ⊥) → 0 < v
    above_zero zero n0 = absurd (n0 refl)
    above_zero (suc v) n0 = omega arith

    absent : {v : Bool} → get_or marked 0 None ≡ Some v → ⊥
    absent {v} e = let x : None ≡ Some v = sym m.zero_free ∙ e in cc

-- how many variables have a value
abbrev mark : Option Bool → ℕ
mark None = 0
mark (Some b) = 1

marks_fit : (xs : List (Option Bool)) → sum_by mark xs ≤ length xs
marks_fit [] = omega arith
marks_fit (None ∷ xs) = omega (arith, marks_fit xs, sum_by-cons mark None xs)
marks_fit (Some b ∷ xs) = omega (arith, marks_fit xs, sum_by-cons mark (Some b) xs)

marks_none : (n : ℕ) → sum_by mark (replicate n None) ≡ 0
marks_none zero = refl
marks_none (suc n) = omega (arith, sum_by-cons mark None (replicate n None), marks_none n)

marks_count : (n : ℕ) (steps : List Step) → Fresh n steps → sum_by mark (marks n steps) ≡ length steps
marks_count n [] f = marks_none n
marks_count n (s ∷ older) f =
    let size : var_of s.lit < length (marks n older) = omega (arith, f.0, length-marks n older) in
    omega (arith, sum_by-set mark (marks n older) (var_of s.lit) (Some (positive s.lit)) None size, marks_count n older f.2, ap mark f.1)

-- there are no more steps than variables
pub steps_fit : (n : ℕ) (steps : List Step) → Fresh n steps → length steps ≤ n
steps_fit n steps f = omega (arith, marks_count n steps f, marks_fit (marks n steps), length-marks n steps)

-- a value is set
pub full_push : (values : List (Option Bool)) (low i : ℕ) (b : Bool) → Full values low → i < length values → Full (set values i (Some b)) low
full_push values low i b full size = λ k one below is. ⊎_elim
    (λ (t : (eqb i k ≡ true) × (i ≡ k)). let p : Some b ≡ None = sym (get_or-set_at values i k (Some b) None (sym t.1) size) ∙ is in cc)
    (λ (e : (eqb i k ≡ false) × (i ≢ k)). let other : k ≢ i = λ q. e.1 (sym q) in full k one below (sym (get_or-set_other values i k (Some b) None other) ∙ is))
    (eqb_tells i k)

-- a value is taken back
pub full_pop : (values : List (Option Bool)) (low i : ℕ) → Full values low → Full (set values i None) (min low i)
full_pop values low i full = λ k one below is.
    let other : k ≢ i = omega arith in
    full k one (omega arith) (sym (get_or-set_other values i k None None other) ∙ is)

-- one more place
pub full_more : (values : List (Option Bool)) (low : ℕ) → Full values low → get_or values low None ≢ None → Full values (low + 1)
full_more values low full some = λ k one below is. ⊎_elim
    (λ (t : (eqb low k ≡ true) × (low ≡ k)). some (ap (λ j. get_or values j None) t.1 ∙ is))
    (λ (e : (eqb low k ≡ false) × (low ≢ k)). full k one (omega (arith, e.1)) is)
    (eqb_tells low k)
