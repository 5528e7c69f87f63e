-- The walk down the trail.
use Rattle.std.proofs.Common.{◌≡◌, ◌≢◌, ℕ, suc, ◌+◌, ◌-◌, ◌<◌, ◌≤◌, Bool, true, false, cond, eqb, List, length, inl, inr, subst, arith}
use Rattle.std.proofs.lemmas.Bool.{cases_eq, eqb-true, eq-eqb, and_parts, and_from}
use Rattle.sat_terms.specs.Literal.{has}
use Rattle.sat_terms.specs.Truth.{Assignment, Implies}
use Rattle.trail_state.specs.declared.trail.Step.{Step}
use Rattle.trail_state.specs.declared.reason.Reason.TheVariants.{Decision}
use Rattle.trail_state.specs.Trail.{step, IsTrail}
use Rattle.trail_state.proofs.Levels.{rising, below_top, opens}
use Rattle.rooted_trails.specs.Marks.{flag, RootFollows, Covered, Grows}
use Rattle.rooted_trails.proofs.Blocking.{blocked_step, blocked_skip, blocked_fewer}
use Rattle.conflict_analysis.specs.Walking.{is_open, open_count, Marked, Resolving, IsUip}
use Rattle.conflict_analysis.proofs.Marking.{open_count-some, open_count-pos}

-- the count falls by the place that is done
pub Marked-down : (t : List Step) (top i : ℕ) (seen : List Bool) (count count' : ℕ) (lower : List ℕ) → Marked t top (suc i) seen count lower → count' + cond (is_open t seen top i) 1 0 ≡ count → Marked t top i seen count' lower
Marked-down t top i seen count count' lower m e = record {
  long = m.long;
  counted = (let c = m.counted in omega arith);
  above_root = m.above_root;
  lower_all = m.lower_all;
  lower_only = m.lower_only;
}

-- more marks, a greater count
pub open_count-grows : (t : List Step) (seen seen' : List Bool) (top i : ℕ) → Grows seen seen' → 0 < open_count t seen top i → 0 < open_count t seen' top i
open_count-grows t seen seen' top i grows pos =
    let r = open_count-some t seen top i pos in
    let p = and_parts (flag seen r.0) (eqb (step t r.0).level top) r.2 in
    open_count-pos t seen' top i r.0 r.1 (and_from (flag seen' r.0) (eqb (step t r.0).level top) (grows r.0 p.0) p.1)

module _ (F : Assignment → Type 0) (t : List Step) (top i : ℕ) (seen : List Bool) (count : ℕ) (lower : List ℕ) (r : Resolving F t top (suc i) seen count lower) (shape : IsTrail t top) (in' : i < length t) where
  -- the open place that is left, if it is not i
  left : 0 < open_count t seen top i → (j : ℕ) × (j < i) × (flag seen j ≡ true) × ((step t j).level ≡ top)
  left pos =
      let o = open_count-some t seen top i pos in
      let p = and_parts (flag seen o.0) (eqb (step t o.0).level top) o.2 in
      (o.0, o.1, p.0, eqb-true (step t o.0).level top p.1)

  -- a marked place under which another open one stands has the current level
  level_here : 0 < open_count t seen top i → (step t i).level ≡ top
  level_here pos =
      let l = left pos in
      let up = rising 0 t top shape.levels l.0 i (let lt = l.1 in omega arith) in' in
      let below = below_top 0 t top shape.levels i in' in
      let e = l.3 in
      omega arith

  -- where the count is above 1 an open place is left below i
  pub left_below : 1 < count → 0 < open_count t seen top i
  left_below more = go (is_open t seen top i) r.marked.counted where
    go : (b : Bool) → count ≡ open_count t seen top i + cond b 1 0 → 0 < open_count t seen top i
    go true e = omega arith
    go false e = omega arith

  pub no_decision : 1 < count → (step t i).reason ≡ Decision → ⊥
  no_decision more d =
      let pos = left_below more in
      let l = left pos in
      let lt = opens 0 t top shape.levels l.0 i l.1 in' d in
      let e = l.3 in
      let here = level_here pos in
      absurd (omega arith)

  open_here : 1 < count → flag seen i ≡ true → is_open t seen top i ≡ true
  open_here more here = and_from (flag seen i) (eqb (step t i).level top) here (eq-eqb (step t i).level top (level_here (left_below more)))

  pub marked_down : 1 < count → flag seen i ≡ true → Marked t top i seen (count - 1) lower
  marked_down more here = Marked-down t top i seen count (count - 1) lower r.marked (rw (open_here more here) (omega arith))

  -- the resolution at i is done
  pub resolving_step : (c : List ℕ) (seen' : List Bool) (count' : ℕ) (lower' : List ℕ) → 1 < count → Implies F c → RootFollows F t
      → Marked t top i seen' count' lower' → Grows seen seen' → ((l : ℕ) → has c l ≡ true → l ≢ (step t i).lit → Covered t seen' i l)
      → Resolving F t top i seen' count' lower'
  resolving_step c seen' count' lower' more imp root marked grows covered = record {
    marked = marked;
    positive = (let k = marked.counted in let g = open_count-grows t seen seen' top i grows (left_below more) in omega arith);
    blocked = blocked_step F t top root shape c seen seen' i imp r.blocked grows covered;
  }

  -- where i is not marked an open place is left below it
  pub left_off : flag seen i ≡ false → 0 < open_count t seen top i
  left_off off =
      let c : count ≡ open_count t seen top i + cond (is_open t seen top i) 1 0 = r.marked.counted in
      let c' : count ≡ open_count t seen top i + 0 = rw off at c in
      let p = r.positive in
      omega arith

  pub not_first : flag seen i ≡ false → 0 < i
  not_first off = let l = left (left_off off) in let lt = l.1 in omega arith

  pub not_first_open : 1 < count → 0 < i
  not_first_open more = let l = left (left_below more) in let lt = l.1 in omega arith

  -- a place that is not marked is passed over
  pub resolving_skip : flag seen i ≡ false → Resolving F t top i seen count lower
  resolving_skip off = record {
    marked = Marked-down t top i seen count count lower r.marked (rw off (omega arith));
    positive = r.positive;
    blocked = blocked_skip F t seen i off r.blocked;
  }

  -- some open place is left up to i, so i has the current level
  top_here : (step t i).level ≡ top
  top_here =
      let o = open_count-some t seen top (suc i) (let c = r.marked.counted in let p = r.positive in omega arith) in
      let q = and_parts (flag seen o.0) (eqb (step t o.0).level top) o.2 in
      let e = eqb-true (step t o.0).level top q.1 in
      let up = rising 0 t top shape.levels o.0 i (let lt = o.1 in omega arith) in' in
      let below = below_top 0 t top shape.levels i in' in
      omega arith

  -- the walk ends
  pub uip_here : flag seen i ≡ true → count ≤ 1 → IsUip F t top i seen lower
  uip_here here one =
      let open' : is_open t seen top i ≡ true = and_from (flag seen i) (eqb (step t i).level top) here (eq-eqb (step t i).level top top_here) in
      let c : count ≡ open_count t seen top i + cond (is_open t seen top i) 1 0 = r.marked.counted in
      let c' : count ≡ open_count t seen top i + 1 = rw open' at c in
      record {
        within = in';
        top_level = top_here;
        others = λ j lt h.
            let up = below_top 0 t top shape.levels j (omega arith) in
            elim (cases_eq (step t j).level top) [
              | inl e ↦ absurd (let p = open_count-pos t seen top i j lt (and_from (flag seen j) (eqb (step t j).level top) h (eq-eqb (step t j).level top e)) in omega arith)
              | inr n ↦ omega arith
            ];
        above_root = r.marked.above_root;
        blocked = r.blocked;
        lower_needed = λ j in'' h low. inl (r.marked.lower_all j in'' h low);
        lower_only = r.marked.lower_only;
      }

-- what is known of F is known of fewer assignments
pub resolving_fewer : (F G : Assignment → Type 0) (t : List Step) (top i : ℕ) (seen : List Bool) (count : ℕ) (lower : List ℕ) → ((f : Assignment) → G f → F f) → Resolving F t top i seen count lower → Resolving G t top i seen count lower
resolving_fewer F G t top i seen count lower fewer r = record {
  marked = r.marked;
  positive = r.positive;
  blocked = blocked_fewer F G t seen i fewer r.blocked;
}

-- an open place is left below i
pub resolving_pos : (F : Assignment → Type 0) (t : List Step) (top i : ℕ) (seen : List Bool) (count : ℕ) (lower : List ℕ) → Resolving F t top i seen count lower → 0 < i
resolving_pos F t top i seen count lower r =
    let o = open_count-some t seen top i (let c = r.marked.counted in let p = r.positive in omega arith) in
    let lt = o.1 in
    omega arith
