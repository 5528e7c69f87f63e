-- The walk back to a level.
use Rattle.std.proofs.Common.{◌≡◌, ◌≢◌, ℕ, suc, ◌+◌, ◌-◌, ◌<◌, ◌≤◌, false, eqb, List, length, length-set, get_or, set, take, inl, inr, refl, sym, ap, ◌∙◌, arith}
use Rattle.std.specs.Prelude.{sum_by}
use Rattle.std.proofs.lemmas.Bool.{cases_eq, ne_eqb}
use Rattle.std.proofs.lemmas.List.{length-map, map-set, take-map, get_or-take, length-take-le, get_or-set_same, get_or-set_other, take-take, take_all}
use Rattle.std.proofs.lemmas.List.Sums.{sum_by-set}
use Rattle.sat_terms.specs.Literal.{var_of}
use Rattle.trail_state.specs.declared.trail.Step.{Step}
use Rattle.trail_state.specs.Trail.{step, no_step, lits_of, IsApart, IsTrail}
use Rattle.trail_state.specs.declared.trail.Entry.{Entry}
use Rattle.trail_state.specs.Table.{entry, entry_of, empty_entry, places_of, TableFits}
use Rattle.trail_state.proofs.Levels.{rising, levelled_back}
use Rattle.trail_state.proofs.Changes.{empty_weight}
use Rattle.trail_state.proofs.Steps.{SameStanding}
use Rattle.trail_state.proofs.Places.{lit_read, step_read}

-- the steps of a front
pub step_take : (t : List Step) (k i : ℕ) → i < k → step (take k t) i ≡ step t i
step_take t k i lt = get_or-take k t i no_step lt

pub apart_take : (t : List Step) (k : ℕ) → k ≤ length t → IsApart t → IsApart (take k t)
apart_take t k in' apart i j a b e =
    let size : length (take k t) ≡ k = length-take-le k t in' in
    apart i j (omega arith) (omega arith) (rw (step_take t k i (omega arith), step_take t k j (omega arith)) at e)

-- the table once the last step was taken off
pub table_pop : (p : List ℕ) (t : List Step) (k : ℕ) → TableFits p t → length t ≡ suc k → TableFits (set p (var_of (step t k).lit - 1) 0) (take k t)
table_pop p t k fits long =
    let v = var_of (step t k).lit in
    let h = fits.placed k (omega arith) in
    let pos = h.named in
    let in' = h.declared in
    let below : v - 1 < length p = omega arith in
    let size : length (take k t) ≡ k = length-take-le k t (omega arith) in
    let size' = length-set p (v - 1) 0 in
    record {
      placed = λ i a.
          let a' : i < k = omega arith in
          let q = fits.placed i (omega arith) in
          let other : var_of (step t i).lit ≢ v = λ e. absurd (let z = fits.apart i k (omega arith) (omega arith) e in omega arith) in
          let m = q.named in
          let other' : var_of (step t i).lit - 1 ≢ v - 1 = λ e. other (omega arith) in
          rw (step_take t k i a') (record { named = q.named; declared = rw size' q.declared; here = get_or-set_other p (v - 1) (var_of (step t i).lit - 1) 0 0 other' ∙ q.here });
      within = λ u q a.
          elim (cases_eq u v) [
            | inl e ↦ rw e (let z = get_or-set_same p (v - 1) 0 0 below in omega arith)
            | inr n ↦
                let n' : u - 1 ≢ v - 1 = λ e. n (omega arith) in
                let r : entry (set p (v - 1) 0) u ≡ entry p u = get_or-set_other p (v - 1) (u - 1) 0 0 n' in
                let a' : u ≤ length p = rw size' at a in
                let w = fits.within u q a' in
                elim (cases_eq (entry p u) (suc k)) [
                  | inl e ↦ absurd (let b = fits.back u q a' (omega arith) in let i : entry p u - 1 ≡ k = omega arith in n (sym (rw i at b)))
                  | inr m ↦ omega arith
                ]
          ];
      back = λ u q a some.
          elim (cases_eq u v) [
            | inl e ↦ absurd (let z : entry (set p (v - 1) 0) u ≡ 0 = rw e (get_or-set_same p (v - 1) 0 0 below) in omega arith)
            | inr n ↦
                let n' : u - 1 ≢ v - 1 = λ e. n (omega arith) in
                let r : entry (set p (v - 1) 0) u ≡ entry p u = get_or-set_other p (v - 1) (u - 1) 0 0 n' in
                let a' : u ≤ length p = rw size' at a in
                let some' : 0 < entry p u = rw r at some in
                let w = fits.within u q a' in
                let b = fits.back u q a' some' in
                let low : entry p u - 1 < k =
                elim (cases_eq (entry p u - 1) k) [
                  | inl e ↦ absurd (n (sym (rw e at b)))
                  | inr m ↦ omega arith
                ] in
                rw (r, step_take t k (entry p u - 1) low) b
          ];
      apart = apart_take t k (omega arith) fits.apart;
      filled =
          (let e : sum_by empty_weight (set p (v - 1) 0) + empty_weight (entry p v) ≡ sum_by empty_weight p + empty_weight 0 = sum_by-set empty_weight p (v - 1) 0 0 below in
          let off : eqb (entry p v) 0 ≡ false = ne_eqb (entry p v) 0 (λ q. absurd (let r = h.here in omega arith)) in
          let e' : sum_by empty_weight (set p (v - 1) 0) + 0 ≡ sum_by empty_weight p + 1 = rw off at e in
          let filled = fits.filled in
          omega arith);
      few = rw size' fits.few;
    }

-- The walk has come down to the place `end`: the table fits what stands below it. Levels and clauses stay in the table.
pub record Falling (t : List Step) (es es' : List Entry) (end : ℕ) : Type 0 where
  pub within : end ≤ length t
  pub table : TableFits (places_of es') (take end t)
  pub sized : length es' ≡ length es
  pub keep : (v : ℕ) → SameStanding (entry_of es v) (entry_of es' v)

pub falling_start : (t : List Step) (es : List Entry) (n : ℕ) → n ≡ length t → TableFits (places_of es) t → Falling t es es n
falling_start t es n is fits = rw is (record {
  within = omega arith;
  table = rw (take_all (length t) t (omega arith)) fits;
  sized = refl;
  keep = λ v. record { level = refl; clause = refl };
})

-- the table has an entry for the variable of the step below
pub falling_in : (t : List Step) (es es' : List Entry) (n end l : ℕ) → Falling t es es' n → end + 1 ≡ n → l ≡ (step t end).lit → (0 < var_of l) × (var_of l ≤ length es)
falling_in t es es' n end l f is l-at =
    let w = f.within in
    let in' : end < length t = omega arith in
    let size' : length (take n t) ≡ n = length-take-le n t w in
    let same = f.sized in
    let p = f.table.placed end (omega arith) in
    let size : length (places_of es') ≡ length es' = length-map es' (λ e. e.place) in
    let h : step (take n t) end ≡ step t end = step_take t n end (omega arith) in
    let a : 0 < var_of (step t end).lit = rw h at p.named in
    let b : var_of (step t end).lit ≤ length (places_of es') = rw h at p.declared in
    rw l-at (omega arith, omega arith)

-- one step down, as the code reads it: `l` is the literal, and `e` its variable's new entry
pub falling_turn : (t : List Step) (es es' : List Entry) (n end l at : ℕ) (e : Entry) → Falling t es es' n → end + 1 ≡ n → l ≡ (step t end).lit → at + 1 ≡ var_of l → e.place ≡ 0 → SameStanding (get_or es' at empty_entry) e → Falling t es (set es' at e) end
falling_turn t es es' n end l at e f is l-at at-is none same =
    let w = f.within in
    let in' : end < length t = omega arith in
    let n-is : n ≡ suc end = omega arith in
    let p = places_of es' in
    let fits : TableFits p (take (suc end) t) = rw (← n-is) f.table in
    let here : step (take (suc end) t) end ≡ step t end = step_take t (suc end) end (omega arith) in
    let popped : TableFits (set p (var_of (step (take (suc end) t) end).lit - 1) 0) (take end (take (suc end) t)) = table_pop p (take (suc end) t) end fits (length-take-le (suc end) t (omega arith)) in
    let at' : var_of (step t end).lit - 1 ≡ at = rw (← l-at) (omega arith) in
    let popped' : TableFits (set p at 0) (take end t) = rw (here, take-take end (suc end) t (omega arith), at') at popped in
    let declared = falling_in t es es' n end l f is l-at in
    let size = f.sized in
    let d = declared.1 in
    record {
      within = omega arith;
      table = rw (map-set (λ (z : Entry). z.place) es' at e, none) popped';
      sized = length-set es' at e ∙ f.sized;
      keep = λ v.
          let k = f.keep v in
          elim (cases_eq (v - 1) at) [
            | inl q ↦
                let r : entry_of (set es' at e) v ≡ e = rw q (get_or-set_same es' at e empty_entry (omega arith)) in
                let r' : entry_of es' v ≡ get_or es' at empty_entry = rw q refl in
                record { level = ap (λ z. z.level) r ∙ same.level ∙ sym (ap (λ z. z.level) r') ∙ k.level; clause = ap (λ z. z.clause) r ∙ same.clause ∙ sym (ap (λ z. z.clause) r') ∙ k.clause }
            | inr m ↦
                let r : entry_of (set es' at e) v ≡ entry_of es' v = get_or-set_other es' at (v - 1) e empty_entry m in
                record { level = ap (λ z. z.level) r ∙ k.level; clause = ap (λ z. z.clause) r ∙ k.clause }
          ];
    }

-- a front is a trail of its level
pub shape_back : (t : List Step) (top level k : ℕ) → IsTrail t top → level ≤ top → k ≤ length t → ((i : ℕ) → i < k → (step t i).level ≤ level) → ((i : ℕ) → k ≤ i → i < length t → level < (step t i).level) → IsTrail (take k t) level
shape_back t top level k shape le in' small great = record {
  apart = apart_take t k in' shape.apart;
  levels = levelled_back 0 t top level k shape.levels (omega arith) le in' small great;
}
