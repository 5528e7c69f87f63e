-- What a literal more, and a variable more, make of the table and the shape.
use Rattle.std.proofs.Common.{◌≡◌, ◌≢◌, ℕ, suc, zero, ◌+◌, ◌-◌, ◌<◌, ◌≤◌, false, cond, eqb, List, [], ◌∷◌, ◌++◌, length, length-set, get_or, set, take, replicate, length-append, ◌⊎◌, inl, inr, refl, sym, ap, ◌∙◌, arith, append_assoc, None}
use Rattle.std.specs.Prelude.{count_by, sum_by}
use Rattle.std.proofs.lemmas.Bool.{cases_eq, cases_lt, ne_eqb}
use Rattle.std.proofs.lemmas.List.{append-nil, length-map, take_all, length-replicate, get_or_append_left, get_or_push, get_or-set_same, get_or-set_other, length_push}
use Rattle.std.proofs.lemmas.List.Sums.{sum_by-set, sum_by_push}
use Rattle.sat_terms.specs.Limits.{max_var}
use Rattle.sat_terms.specs.Literal.{var_of}
use Rattle.trail_state.specs.declared.trail.Step.{Step}
use Rattle.trail_state.specs.declared.reason.Reason.{Reason}
use Rattle.trail_state.specs.Trail.{step, no_step, lits_of, value_on, level_after, IsApart, IsTrail}
use Rattle.trail_state.specs.Table.{entry, TableFits, IsHeld}
use Rattle.trail_state.proofs.Levels.{levelled_push}
use Rattle.trail_state.proofs.Places.{nowhere}

-- the steps of a longer trail
pub step_old : (t : List Step) (x : Step) (i : ℕ) → i < length t → step (t ++ x ∷ []) i ≡ step t i
step_old t x i in' = get_or_append_left t (x ∷ []) no_step i in'

pub step_new : (t : List Step) (x : Step) → step (t ++ x ∷ []) (length t) ≡ x
step_new t x = get_or_push t x no_step (length t) refl

-- a place of the longer trail is an old one or the last
pub old_or_new : (t : List Step) (x : Step) (i : ℕ) → i < length (t ++ x ∷ []) → (i < length t) ⊎ (i ≡ length t)
old_or_new t x i in' =
    let l = length_push t x in
    elim (cases_lt i (length t)) [ inl a ↦ inl a | inr b ↦ inr (omega arith) ]

pub lits_push : (t : List Step) (x : Step) → lits_of (t ++ x ∷ []) ≡ lits_of t ++ x.lit ∷ []
lits_push [] x = refl
lits_push (y ∷ t) x = ap (λ u. y.lit ∷ u) (lits_push t x)

pub apart_push : (t : List Step) (x : Step) → IsApart t → ((j : ℕ) → j < length t → var_of (step t j).lit ≢ var_of x.lit) → IsApart (t ++ x ∷ [])
apart_push t x apart other i j a b same =
    elim (old_or_new t x i a) [
      | inl i-old ↦
          elim (old_or_new t x j b) [
            | inl j-old ↦ apart i j i-old j-old (rw (step_old t x i i-old, step_old t x j j-old) at same)
            | inr e ↦ absurd (other i i-old (rw (step_old t x i i-old, e, step_new t x) at same))
          ]
      | inr e ↦
          elim (old_or_new t x j b) [
            | inl j-old ↦ absurd (other j j-old (sym (rw (e, step_new t x, step_old t x j j-old) at same)))
            | inr e' ↦ e ∙ sym e'
          ]
    ]

-- the weight of an entry in the count of those that are 0
abbrev pub empty_weight : ℕ → ℕ
empty_weight y = cond (eqb y 0) 1 0

-- a variable that stands nowhere has 0 in the table
pub entry_zero : (p : List ℕ) (t : List Step) (v : ℕ) → TableFits p t → 0 < v → v ≤ length p → ((j : ℕ) → j < length t → var_of (step t j).lit ≢ v) → entry p v ≡ 0
entry_zero p t v fits pos in' other =
    elim (cases_eq (entry p v) 0) [
      | inl z ↦ z
      | inr n ↦ absurd (let up = fits.within v pos in' in other (entry p v - 1) (omega arith) (fits.back v pos in' (omega arith)))
    ]

-- so there is room for it
pub room_left : (p : List ℕ) (t : List Step) (v : ℕ) → TableFits p t → 0 < v → v ≤ length p → ((j : ℕ) → j < length t → var_of (step t j).lit ≢ v) → length t < length p
room_left p t v fits pos in' other =
    let z = entry_zero p t v fits pos in' other in
    let e : sum_by empty_weight (set p (v - 1) 1) + empty_weight (entry p v) ≡ sum_by empty_weight p + empty_weight 1 = sum_by-set empty_weight p (v - 1) 1 0 (omega arith) in
    let e' : sum_by empty_weight (set p (v - 1) 1) + 1 ≡ sum_by empty_weight p + 0 = rw z at e in
    let filled = fits.filled in
    omega arith

-- the table with a literal more
pub table_push : (p : List ℕ) (t : List Step) (x : Step) → TableFits p t → 0 < var_of x.lit → var_of x.lit ≤ length p → ((j : ℕ) → j < length t → var_of (step t j).lit ≢ var_of x.lit)
    → TableFits (set p (var_of x.lit - 1) (length t + 1)) (t ++ x ∷ [])
table_push p t x fits pos in' other =
    let v = var_of x.lit in
    let k = length t + 1 in
    let long = length-set p (v - 1) k in
    let longer = length_push t x in
    let below : v - 1 < length p = omega arith in
    record {
      placed = λ i a.
          elim (old_or_new t x i a) [
            | inl i-old ↦
                let h = fits.placed i i-old in
                let n = other i i-old in
                let m = h.named in
                let n' : var_of (step t i).lit - 1 ≢ v - 1 = λ e. n (omega arith) in
                rw (step_old t x i i-old) (record { named = h.named; declared = rw long h.declared; here = get_or-set_other p (v - 1) (var_of (step t i).lit - 1) k 0 n' ∙ h.here })
            | inr e ↦ rw (e, step_new t x) (record { named = pos; declared = rw long in'; here = get_or-set_same p (v - 1) k 0 below })
          ];
      within = λ u q a.
          elim (cases_eq u v) [
            | inl e ↦ rw (e, longer) (let r = get_or-set_same p (v - 1) k 0 below in omega arith)
            | inr n ↦
                let n' : u - 1 ≢ v - 1 = λ e. n (omega arith) in
                let r = get_or-set_other p (v - 1) (u - 1) k 0 n' in
                let w = fits.within u q (rw long at a) in
                rw longer (omega arith)
          ];
      back = λ u q a some.
          elim (cases_eq u v) [
            | inl e ↦
                let r : entry (set p (v - 1) k) u ≡ k = rw e (get_or-set_same p (v - 1) k 0 below) in
                let at : k - 1 ≡ length t = omega arith in
                rw (r, at, step_new t x) (sym e)
            | inr n ↦
                let n' : u - 1 ≢ v - 1 = λ e. n (omega arith) in
                let r : entry (set p (v - 1) k) u ≡ entry p u = get_or-set_other p (v - 1) (u - 1) k 0 n' in
                let a' : u ≤ length p = rw long at a in
                let some' : 0 < entry p u = rw r at some in
                let w = fits.within u q a' in
                rw (r, step_old t x (entry p u - 1) (omega arith)) (fits.back u q a' some')
          ];
      apart = apart_push t x fits.apart other;
      filled =
          (let z = entry_zero p t v fits pos in' other in
          let e : sum_by empty_weight (set p (v - 1) k) + empty_weight (entry p v) ≡ sum_by empty_weight p + empty_weight k = sum_by-set empty_weight p (v - 1) k 0 below in
          let off : eqb k 0 ≡ false = ne_eqb k 0 (λ q. absurd (omega arith)) in
          let e' : sum_by empty_weight (set p (v - 1) k) + 1 ≡ sum_by empty_weight p + 0 = rw (z, off) at e in
          let filled = fits.filled in
          rw (long, longer) (omega arith));
      few = rw long fits.few;
    }

pub shape_push : (t : List Step) (top top' : ℕ) (x : Step) → IsTrail t top → ((j : ℕ) → j < length t → var_of (step t j).lit ≢ var_of x.lit) → top' ≡ level_after top x.reason → x.level ≡ top' → IsTrail (t ++ x ∷ []) top'
shape_push t top top' x shape other after lev = record {
  apart = apart_push t x shape.apart other;
  levels = levelled_push 0 t top top' x shape.levels after lev;
}

-- the table with a variable more
pub table_wider : (p : List ℕ) (t : List Step) → TableFits p t → length p < max_var → TableFits (p ++ 0 ∷ []) t
table_wider p t fits few =
    let long = length_push p 0 in
    record {
      placed = λ i a.
          let h = fits.placed i a in
          let v = var_of (step t i).lit in
          let d = h.declared in
          let n = h.named in
          record { named = h.named; declared = rw long (omega arith); here = get_or_append_left p (0 ∷ []) 0 (v - 1) (omega arith) ∙ h.here };
      within = λ v q a.
          elim (cases_lt (v - 1) (length p)) [
            | inl b ↦ rw (get_or_append_left p (0 ∷ []) 0 (v - 1) b) (fits.within v q (omega arith))
            | inr ge ↦ (let z : get_or (p ++ 0 ∷ []) (v - 1) 0 ≡ 0 = get_or_push p 0 0 (v - 1) (omega arith) in omega arith)
          ];
      back = λ v q a some.
          elim (cases_lt (v - 1) (length p)) [
            | inl b ↦ let same = get_or_append_left p (0 ∷ []) 0 (v - 1) b in rw same (fits.back v q (omega arith) (rw same at some))
            | inr ge ↦ absurd (let z : get_or (p ++ 0 ∷ []) (v - 1) 0 ≡ 0 = get_or_push p 0 0 (v - 1) (omega arith) in omega arith)
          ];
      apart = fits.apart;
      filled =
          (let e : count_by (λ y. eqb y 0) (p ++ 0 ∷ []) ≡ count_by (λ y. eqb y 0) p + 1 = sum_by_push empty_weight p 0 in
          let f = fits.filled in
          rw (long, e) (omega arith));
      few = rw long (omega arith);
    }

-- the table with some variables more
pub table_widest : (n : ℕ) (p : List ℕ) (t : List Step) → TableFits p t → length p + n ≤ max_var → TableFits (p ++ replicate n 0) t
table_widest zero p t fits few = rw (append-nil p) fits
table_widest (suc n) p t fits few =
    let long = length_push p 0 in
    let fits' = table_wider p t fits (omega arith) in
    rw (← append_assoc p (0 ∷ []) (replicate n 0)) (table_widest n (p ++ 0 ∷ []) t fits' (rw long (omega arith)))

-- what `declare` makes of the table, as the code reads it
pub table_declared : (p p' : List ℕ) (t : List Step) (had count : ℕ) → TableFits p t → had ≡ length p → had < count → count ≤ max_var → p' ≡ take count p ++ replicate (count - had) 0
    → TableFits p' t × (length p' ≡ count)
table_declared p p' t had count fits is more few p-is =
    let zeros : List ℕ = replicate (count - had) 0 in
    let all : take count p ≡ p = take_all count p (omega arith) in
    let whole : p' ≡ p ++ zeros = rw all at p-is in
    let l : length (p ++ zeros) ≡ length p + length zeros = length-append p zeros in
    let r : length zeros ≡ count - had = length-replicate (count - had) 0 in
    (rw whole (table_widest (count - had) p t fits (omega arith)), rw whole (omega (arith, l, r)))
