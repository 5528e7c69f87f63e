-- Laws of places, and of what the table of places has.
use Rattle.std.proofs.Common.{◌≡◌, ◌≢◌, ℕ, suc, zero, ◌+◌, ◌-◌, ◌<◌, ◌≤◌, Bool, true, false, eqb, List, [], ◌∷◌, length, get_or, inl, inr, refl, sym, ap, ◌∙◌, arith, Option, Some, None}
use Rattle.std.specs.Prelude.{option_map, find}
use Rattle.std.proofs.lemmas.Bool.{false≢true, false_from_ne_true, or_cases, or_left, or_right, eqb-true, eq-eqb, ne_eqb, cases_eq}
use Rattle.std.proofs.lemmas.List.{get_or_read, get_or-map}
use Rattle.sat_terms.specs.Literal.{neg, var_of}
use Rattle.sat_terms.proofs.Literals.{var_of-neg, same_var, neg-other}
use Rattle.trail_state.specs.declared.trail.Step.{Step}
use Rattle.trail_state.specs.Trail.{step, no_step, lits_of, true_on, value_on, place_on, level_on, reason_on, IsApart}
use Rattle.trail_state.specs.Table.{entry, TableFits}

-- a literal that is true stands at a place
pub place_of_true : (t : List Step) (l : ℕ) → true_on t l ≡ true → (j : ℕ) × (j < length t) × ((step t j).lit ≡ l)
place_of_true [] l h = absurd (false≢true h)
place_of_true (x ∷ t) l h =
    elim (or_cases (eqb x.lit l) (true_on t l) h) [
      | inl e ↦ (0, omega arith, eqb-true x.lit l e)
      | inr h' ↦
          let r = place_of_true t l h' in
          let b = r.1 in
          (suc r.0, omega arith, r.2)
    ]

pub true_at_place : (t : List Step) (j l : ℕ) → j < length t → (step t j).lit ≡ l → true_on t l ≡ true
true_at_place [] j l b e = absurd (omega arith)
true_at_place (x ∷ t) zero l b e = or_left (eqb x.lit l) (true_on t l) (eq-eqb x.lit l e)
true_at_place (x ∷ t) (suc j) l b e = or_right (eqb x.lit l) (true_on t l) (true_at_place t j l (omega arith) e)

-- a variable that stands nowhere has no place
pub place_none : (t : List Step) (v : ℕ) → ((j : ℕ) → j < length t → var_of (step t j).lit ≢ v) → place_on t v ≡ None
place_none [] v other = refl
place_none (x ∷ t) v other =
    rw (ne_eqb (var_of x.lit) v (other 0 (omega arith)), place_none t v (λ j b. other (suc j) (omega arith))) refl

-- a variable that stands at one place alone has that place
pub place_only : (t : List Step) (v k : ℕ) → k < length t → var_of (step t k).lit ≡ v → ((j : ℕ) → j < length t → var_of (step t j).lit ≡ v → j ≡ k) → place_on t v ≡ Some k
place_only [] v k in' is only = absurd (omega arith)
place_only (x ∷ t) v zero in' is only = rw (eq-eqb (var_of x.lit) v is) refl
place_only (x ∷ t) v (suc k) in' is only =
    elim (cases_eq (var_of x.lit) v) [
      | inl e ↦ absurd (let z = only 0 (omega arith) e in omega arith)
      | inr n ↦
          rw (ne_eqb (var_of x.lit) v n, place_only t v k (omega arith) is (λ j below same. let e = only (suc j) (omega arith) same in omega arith)) refl
    ]

pub place_apart : (t : List Step) (v k : ℕ) → IsApart t → k < length t → var_of (step t k).lit ≡ v → place_on t v ≡ Some k
place_apart t v k apart in' is = place_only t v k in' is (λ j below same. apart j k below in' (same ∙ sym is))

-- what a place says
pub place_some : (t : List Step) (v k : ℕ) → place_on t v ≡ Some k → (k < length t) × (var_of (step t k).lit ≡ v)
place_some [] v k h = absurd (let e : None ≡ Some k = h in cc)
place_some (x ∷ t) v k h =
    elim (cases_eq (var_of x.lit) v) [
      | inl e ↦
          let z : Some 0 ≡ Some k = rw (eq-eqb (var_of x.lit) v e) at h in
          let z' : 0 ≡ k = cc in
          rw (← z') (omega arith, e)
      | inr n ↦ later (place_on t v) (λ j. place_some t v j) (rw (ne_eqb (var_of x.lit) v n) at h)
    ] where
      later : (r : Option ℕ) → ((j : ℕ) → r ≡ Some j → (j < length t) × (var_of (step t j).lit ≡ v)) → option_map suc r ≡ Some k → (k < length (x ∷ t)) × (var_of (step (x ∷ t) k).lit ≡ v)
      later None said s = absurd (let e : None ≡ Some k = s in cc)
      later (Some j) said s =
          let e : Some (suc j) ≡ Some k = s in
          let z : suc j ≡ k = cc in
          let r = said j refl in
          let b = r.0 in
          rw (← z) (omega arith, r.1)

-- a variable with no place stands nowhere
pub place_nowhere : (t : List Step) (v : ℕ) → place_on t v ≡ None → (j : ℕ) → j < length t → var_of (step t j).lit ≢ v
place_nowhere [] v h j in' is = absurd (omega arith)
place_nowhere (x ∷ t) v h zero in' is = absurd (let e : Some 0 ≡ None = rw (eq-eqb (var_of x.lit) v is) at h in cc)
place_nowhere (x ∷ t) v h (suc j) in' is =
    elim (cases_eq (var_of x.lit) v) [
      | inl e ↦ absurd (let q : Some 0 ≡ None = rw (eq-eqb (var_of x.lit) v e) at h in cc)
      | inr n ↦ place_nowhere t v (none (place_on t v) (rw (ne_eqb (var_of x.lit) v n) at h)) j (omega arith) is
    ] where
      none : (r : Option ℕ) → option_map suc r ≡ None → r ≡ None
      none None s = refl
      none (Some k) s = absurd (let e : Some (suc k) ≡ None = s in cc)

-- the step of a variable is the one at its place
pub find_place : (t : List Step) (v : ℕ) → find (λ x. eqb (var_of x.lit) v) t ≡ option_map (step t) (place_on t v)
find_place [] v = refl
find_place (x ∷ t) v =
    elim (cases_eq (var_of x.lit) v) [
      | inl e ↦ rw (eq-eqb (var_of x.lit) v e) refl
      | inr n ↦ rw (ne_eqb (var_of x.lit) v n) (find_place t v ∙ later (place_on t v))
    ] where
      later : (r : Option ℕ) → option_map (step t) r ≡ option_map (step (x ∷ t)) (option_map suc r)
      later None = refl
      later (Some j) = refl

-- the level and the reason of a variable that has a place, and of one that has none
pub level_at : (t : List Step) (v k : ℕ) → place_on t v ≡ Some k → level_on t v ≡ Some (step t k).level
level_at t v k h = rw (find_place t v, h) refl

pub level_none : (t : List Step) (v : ℕ) → place_on t v ≡ None → level_on t v ≡ None
level_none t v h = rw (find_place t v, h) refl

pub reason_at : (t : List Step) (v k : ℕ) → place_on t v ≡ Some k → reason_on t v ≡ Some (step t k).reason
reason_at t v k h = rw (find_place t v, h) refl

pub reason_none : (t : List Step) (v : ℕ) → place_on t v ≡ None → reason_on t v ≡ None
reason_none t v h = rw (find_place t v, h) refl

-- the value of a literal whose variable has a place, and of one whose variable has none
pub value_at : (t : List Step) (l k : ℕ) → IsApart t → place_on t (var_of l) ≡ Some k → value_on t l ≡ Some (eqb (step t k).lit l)
value_at t l k apart h =
    let at = place_some t (var_of l) k h in
    let x = (step t k).lit in
    elim (same_var x l at.1) [
      | inl e ↦ rw (eq-eqb x l e, true_at_place t k l at.0 e) refl
      | inr n ↦
          let other : x ≢ l = λ e. neg-other l (sym n ∙ e) in
          let off : true_on t l ≡ false = false_from_ne_true (true_on t l) (λ on.
          let r = place_of_true t l on in
          let same = apart r.0 k r.1 at.0 (ap var_of r.2 ∙ sym at.1) in
          other (sym (ap (λ i. (step t i).lit) same) ∙ r.2)) in
          rw (ne_eqb x l other, off, true_at_place t k (neg l) at.0 n) refl
    ]

pub value_none : (t : List Step) (l : ℕ) → place_on t (var_of l) ≡ None → value_on t l ≡ None
value_none t l h = rw (off l refl, off (neg l) (var_of-neg l)) refl where
  off : (m : ℕ) → var_of m ≡ var_of l → true_on t m ≡ false
  off m e = false_from_ne_true (true_on t m) (λ on. let r = place_of_true t m on in place_nowhere t (var_of l) h r.0 r.1 (ap var_of r.2 ∙ e))

-- a variable with no value stands nowhere
pub nowhere : (t : List Step) (l : ℕ) → value_on t l ≡ None → (j : ℕ) → j < length t → var_of (step t j).lit ≢ var_of l
nowhere t l free j in' same =
    elim (same_var (step t j).lit l same) [
      | inl e ↦ absurd (let f : Some true ≡ None = rw (true_at_place t j l in' e) at free in cc)
      | inr n ↦ two (true_on t l) refl (true_at_place t j (neg l) in' n)
    ] where
      two : (b : Bool) → true_on t l ≡ b → true_on t (neg l) ≡ true → ⊥
      two true h m = let f : Some true ≡ None = rw h at free in cc
      two false h m = let f : Some false ≡ None = rw (h, m) at free in cc

-- what the table says of a variable, as the code reads it: `at` is the variable's index, and `k` what stands there
pub read_past : (p : List ℕ) (t : List Step) (v at : ℕ) → TableFits p t → 0 < v → at + 1 ≡ v → length p ≤ at → place_on t v ≡ None
read_past p t v at fits pos is out = place_none t v (λ j b e. let d = (fits.placed j b).declared in absurd (omega (arith, e, d)))

pub read_zero : (p : List ℕ) (t : List Step) (v at k : ℕ) → TableFits p t → 0 < v → at + 1 ≡ v → at < length p → k ≡ get_or p at k → k ≡ 0 → place_on t v ≡ None
read_zero p t v at k fits pos is in' read z = place_none t v (λ j b e.
    let h : entry p v ≡ j + 1 = rw e at (fits.placed j b).here in
    let i : v - 1 ≡ at = omega arith in
    let q : get_or p at 0 ≡ j + 1 = rw i at h in
    let r = get_or_read p at k in' read 0 in
    absurd (omega arith))

pub read_here : (p : List ℕ) (t : List Step) (v at k : ℕ) → TableFits p t → 0 < v → at + 1 ≡ v → at < length p → k ≡ get_or p at k → 0 < k → place_on t v ≡ Some (k - 1)
read_here p t v at k fits pos is in' read some =
    let i : v - 1 ≡ at = omega arith in
    let r : entry p v ≡ k = rw i (sym (get_or_read p at k in' read 0)) in
    let w = fits.within v pos (omega arith) in
    let b : var_of (step t (k - 1)).lit ≡ v = rw r at (fits.back v pos (omega arith) (omega arith)) in
    place_apart t v (k - 1) fits.apart (omega arith) b

-- a step, and its literal in the list of literals, as the code reads them
pub step_read : (t : List Step) (k : ℕ) (x : Step) → k < length t → x ≡ get_or t k x → x ≡ step t k
step_read t k x in' is = get_or_read t k x in' is no_step

pub lit_read : (t : List Step) (k l : ℕ) → k < length t → l ≡ get_or (lits_of t) k l → l ≡ (step t k).lit
lit_read t k l in' is = is ∙ get_or-map (λ x. x.lit) t k no_step l in'
