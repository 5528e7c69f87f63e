-- Laws of seen trails: values, entries and places.
use Rattle.std.proofs.Common.{◌≡◌, ◌≢◌, ℕ, suc, zero, ◌<◌, ◌≤◌, Bool, true, false, ◌||◌, eqb, List, [], ◌∷◌, length, take, Option, Some, None, inl, inr, refl, sym, ap, ◌∙◌, arith}
use Rattle.std.specs.Prelude.{option_map}
use Rattle.std.proofs.lemmas.Bool.{eq-eqb, ne_eqb, cases_eq, le-leb, lt-leb}
use Rattle.sat_terms.specs.Literal.{neg, var_of}
use Rattle.sat_terms.proofs.Literals.{var_of-neg, same_var}
use Rattle.flag_set.specs.Listed.{lists}
use Rattle.user_propagator.specs.declared.seen.Seen.{Seen}
use Rattle.user_propagator.specs.Board.{entry, seen_var, trail_value, trail_entry, trail_place, within}
use Rattle.user_propagator.specs.Noticing.{IsFront}

-- the value of a literal whose variable has this entry
abbrev pub value_in : ℕ → Option Seen → Option Bool
value_in l None = None
value_in l (Some e) = Some (eqb e.lit l)

or_false : (a b : Bool) → (a || b) ≡ false → (a ≡ false) × (b ≡ false)
or_false true b h = absurd (let e : true ≡ false = h in cc)
or_false false b h = (refl, h)

some_none : {T : Type 0} (x : T) → Some x ≡ None → ⊥
some_none x h = cc

-- a variable that was not told has no place
pub place_none : (seen : List Seen) (v : ℕ) → lists seen_var seen v ≡ false → trail_place seen v ≡ None
place_none [] v h = refl
place_none (e ∷ es) v h =
    let p = or_false (eqb (seen_var e) v) (lists seen_var es v) h in
    rw (p.0, place_none es v p.1) refl

-- the first place where a variable stands
pub place_some : (seen : List Seen) (p v : ℕ) → p < length seen → seen_var (entry seen p) ≡ v → ((j : ℕ) → j < p → seen_var (entry seen j) ≢ v) → trail_place seen v ≡ Some p
place_some [] p v in' is earlier = absurd (omega arith)
place_some (e ∷ es) zero v in' is earlier = rw (eq-eqb (seen_var e) v is) refl
place_some (e ∷ es) (suc p) v in' is earlier =
    rw (ne_eqb (seen_var e) v (earlier 0 (omega arith)), place_some es p v (omega arith) is (λ j lt. earlier (suc j) (omega arith))) refl

-- the entry of a variable by its place
pub entry_none : (seen : List Seen) (v : ℕ) → trail_place seen v ≡ None → trail_entry seen v ≡ None
entry_none [] v h = refl
entry_none (e ∷ es) v h =
    elim (cases_eq (seen_var e) v) [
      | inl y ↦ absurd (some_none 0 (rw (eq-eqb (seen_var e) v y) at h))
      | inr n ↦ rw (ne_eqb (seen_var e) v n) (entry_none es v (none (trail_place es v) (rw (ne_eqb (seen_var e) v n) at h)))
    ] where
      none : (r : Option ℕ) → option_map suc r ≡ None → r ≡ None
      none None s = refl
      none (Some k) s = absurd (some_none (suc k) s)

pub entry_some : (seen : List Seen) (v p : ℕ) → trail_place seen v ≡ Some p → (p < length seen) × (trail_entry seen v ≡ Some (entry seen p))
entry_some [] v p h = absurd (let e : None ≡ Some p = h in cc)
entry_some (e ∷ es) v p h =
    elim (cases_eq (seen_var e) v) [
      | inl y ↦
          let z : Some 0 ≡ Some p = rw (eq-eqb (seen_var e) v y) at h in
          let z' : 0 ≡ p = cc in
          rw (← z', eq-eqb (seen_var e) v y) (omega arith, refl)
      | inr n ↦
          rw (ne_eqb (seen_var e) v n) (later (trail_place es v) (λ j. entry_some es v j) (rw (ne_eqb (seen_var e) v n) at h))
    ] where
      later : (r : Option ℕ) → ((j : ℕ) → r ≡ Some j → (j < length es) × (trail_entry es v ≡ Some (entry es j))) → option_map suc r ≡ Some p → (p < length (e ∷ es)) × (trail_entry es v ≡ Some (entry (e ∷ es) p))
      later None said s = absurd (let q : None ≡ Some p = s in cc)
      later (Some j) said s =
          let q : Some (suc j) ≡ Some p = s in
          let z : suc j ≡ p = cc in
          let r = said j refl in
          let b = r.0 in
          rw (← z) (omega arith, r.1)

-- the value of a literal by its variable's entry
pub value_is : (seen : List Seen) (l : ℕ) → trail_value seen l ≡ value_in l (trail_entry seen (var_of l))
value_is [] l = refl
value_is (e ∷ es) l =
    elim (cases_eq e.lit l) [
      | inl y ↦
          let v : var_of e.lit ≡ var_of l = ap var_of y in
          rw (eq-eqb e.lit l y, eq-eqb (var_of e.lit) (var_of l) v) (rw (eq-eqb e.lit l y) refl)
      | inr n ↦
          elim (cases_eq e.lit (neg l)) [
            | inl y ↦
                let v : var_of e.lit ≡ var_of l = ap var_of y ∙ var_of-neg l in
                rw (ne_eqb e.lit l n, eq-eqb e.lit (neg l) y, eq-eqb (var_of e.lit) (var_of l) v) (rw (ne_eqb e.lit l n) refl)
            | inr m ↦
                let other : var_of e.lit ≢ var_of l = λ v. elim (same_var e.lit l v) [ inl a ↦ n a | inr b ↦ m b ] in
                rw (ne_eqb e.lit l n, ne_eqb e.lit (neg l) m, ne_eqb (var_of e.lit) (var_of l) other) (value_is es l)
          ]
    ]

-- the value as the code reads it
pub value_some : (seen : List Seen) (l v : ℕ) (e : Seen) (b : Bool) → v ≡ var_of l → trail_entry seen v ≡ Some e → b ≡ eqb e.lit l → Some b ≡ trail_value seen l
value_some seen l v e b is found test = ap Some test ∙ ap (value_in l) (sym found ∙ ap (trail_entry seen) is) ∙ sym (value_is seen l)

pub value_none : (seen : List Seen) (l v : ℕ) → v ≡ var_of l → trail_entry seen v ≡ None → None ≡ trail_value seen l
value_none seen l v is found = ap (value_in l) (sym found ∙ ap (trail_entry seen) is) ∙ sym (value_is seen l)

-- a literal with no value is of a variable that was not told
pub unseen : (seen : List Seen) (l : ℕ) → trail_value seen l ≡ None → lists seen_var seen (var_of l) ≡ false
unseen [] l h = refl
unseen (e ∷ es) l h =
    elim (cases_eq e.lit l) [
      | inl y ↦ absurd (some_none true (rw (eq-eqb e.lit l y) at h))
      | inr n ↦
          elim (cases_eq e.lit (neg l)) [
            | inl y ↦ absurd (some_none false (rw (ne_eqb e.lit l n, eq-eqb e.lit (neg l) y) at h))
            | inr m ↦
                let other : var_of e.lit ≢ var_of l = λ v. elim (same_var e.lit l v) [ inl a ↦ n a | inr b ↦ m b ] in
                rw (ne_eqb (var_of e.lit) (var_of l) other) (unseen es l (rw (ne_eqb e.lit l n, ne_eqb e.lit (neg l) m) at h))
          ]
    ]

-- the entries up to a level, where they stand at the front
pub front_is : (seen : List Seen) (level n : ℕ) → IsFront seen level n → within level seen ≡ take n seen
front_is [] level zero h = refl
front_is [] level (suc n) h = refl
front_is (e ∷ es) level zero h =
    let high : level < e.level = h.high 0 (omega arith) (omega arith) in
    let tail : IsFront es level 0 = record { within = omega arith; low = λ k a. absurd (omega arith); high = λ k a b. h.high (suc k) (omega arith) (omega arith) } in
    rw (lt-leb e.level level high) (front_is es level 0 tail)
front_is (e ∷ es) level (suc n) h =
    let low : e.level ≤ level = h.low 0 (omega arith) in
    let w = h.within in
    let tail : IsFront es level n = record { within = omega arith; low = λ k a. h.low (suc k) (omega arith); high = λ k a b. h.high (suc k) (omega arith) (omega arith) } in
    rw (le-leb e.level level low) (ap (λ xs. e ∷ xs) (front_is es level n tail))
