use Rattle.std.proofs.Common.{◌≡◌, ◌<◌, ◌≤◌, ◌+◌, ◌-◌, ◌∙◌, ℕ, length, vec_capacity, take, get_or, refl, sym, ap, arith}
use Rattle.std.proofs.lemmas.List.{get_or_read, take_all, length-take-le}
use Rattle.sat_terms.specs.Literal.{neg, var_of}
use Rattle.sat_terms.proofs.Literals.{var_of-neg}
use Rattle.trail_state.specs.Trail.{step, IsStart}
use Rattle.trail_state.specs.Table.{empty_entry, steps_of, start_by}
use Rattle.trail_state.proofs.Steps.{SameStanding, steps-length}
use Rattle.trail_state.proofs.Backing.{falling_start, falling_in, falling_turn}
use Rattle.trail_state.proofs.Values.{valued_back}
use Rattle.trail_state.proofs.Holding.{IsPopped, few_levels, start_is, fall_lit, held_back}
use Rattle.trail_state.proofs.trail.Trail.back_to.Goals as goal
use Rattle.trail_state.proofs.trail.Trail.back_to.Goals.{After-truncate-3}

pub overflow_add-level : goal.overflow_add-level
overflow_add-level c =
    let few = few_levels _ _ _ _ _ _ _ c.self.invariant.0 in
    let low = rw (← c.self.view_is) at c.requires in
    omega (arith, few.0, few.1, few.2, low)

pub overflow_cast-len : goal.overflow_cast-len
overflow_cast-len c =
    let few = few_levels _ _ _ _ _ _ _ c.self.invariant.0 in
    omega (arith, few.1, few.2, c.len.ensures, c.self.inside.lits.ok.0)

pub loop-end-init : goal.loop-end-init
loop-end-init c =
    let size = steps-length c.self.inside.lits.items c.self.inside.entries.items c.self.inside.from_theory.items c.self.inside.starts.items in
    let long : c.len-end.result ≡ length (steps_of c.self.inside.lits.items c.self.inside.entries.items c.self.inside.from_theory.items c.self.inside.starts.items) = omega (arith, c.len-end.ensures, c.self.inside.lits.ok.0, size) in
    let start = start_is _ _ _ _ _ _ _ (c.args.level + 1) c.len.result c.self.invariant.0 (omega (arith, c.len.ensures, c.self.inside.lits.ok.0)) in
    let kept : c.start_in-kept.result ≡ start_by c.self.inside.starts.items (c.args.level + 1) c.len.result = rw c.as_slice.ensures.value at c.start_in-kept.ensures in
    let within = start.within in (
      falling_start _ _ c.len-end.result long c.self.invariant.0.table,
      refl,
      refl,
      refl,
      rw (take_all c.len-end.result (steps_of c.self.inside.lits.items c.self.inside.entries.items c.self.inside.from_theory.items c.self.inside.starts.items) (omega arith)) c.self.invariant.1,
      omega (arith, kept, within),
    )

pub index-lit-requires : goal.index-lit-requires
index-lit-requires c =
    let inv = c.loop-end.invariant in
    let w = inv.0.within in
    let size = steps-length c.self.inside.lits.items c.self.inside.entries.items c.self.inside.from_theory.items c.self.inside.starts.items in
    let test = c.loop-end-test.true in
    let same : length c.loop-end.self-inside.lits.items ≡ length c.self.inside.lits.items = rw inv.1 refl in
    omega (arith, c.loop-end.self-inside.lits.ok.0)

pub index_mut-requires : goal.index_mut-requires
index_mut-requires c =
    let inv = c.loop-end.invariant in
    let test = c.loop-end-test.true in
    let at = fall_lit c.self.inside.lits.items c.self.inside.entries.items c.self.inside.from_theory.items c.self.inside.starts.items c.loop-end.self-inside.entries.items c.loop-end.end c.index-lit.result.now inv.0 (omega arith) (rw inv.1 at c.index-lit.ensures) in
    let named = falling_in (steps_of c.self.inside.lits.items c.self.inside.entries.items c.self.inside.from_theory.items c.self.inside.starts.items) c.self.inside.entries.items c.loop-end.self-inside.entries.items c.loop-end.end (c.loop-end.end - 1) c.index-lit.result.now inv.0 (omega arith) at in
    let pos = named.0 in
    let le = named.1 in
    let size = inv.0.sized in
    let v = c.index.ensures.value in
    let v' = c.var.ensures.value in
    let r = c.index.ensures.range.0 in
    omega (arith, c.loop-end.self-inside.entries.ok.0)

pub index_mut-requires-in-loop-end : goal.index_mut-requires-in-loop-end
index_mut-requires-in-loop-end c =
    let inv = c.loop-end.invariant in
    let test = c.loop-end-test.true in
    let at = fall_lit c.self.inside.lits.items c.self.inside.entries.items c.self.inside.from_theory.items c.self.inside.starts.items c.loop-end.self-inside.entries.items c.loop-end.end c.index-lit.result.now inv.0 (omega arith) (rw inv.1 at c.index-lit.ensures) in
    let named = falling_in (steps_of c.self.inside.lits.items c.self.inside.entries.items c.self.inside.from_theory.items c.self.inside.starts.items) c.self.inside.entries.items c.loop-end.self-inside.entries.items c.loop-end.end (c.loop-end.end - 1) c.index-lit.result.now inv.0 (omega arith) at in
    let pos = named.0 in
    let le = named.1 in
    let size = inv.0.sized in
    let v = c.index.ensures.value in
    let v' = c.var.ensures.value in
    let r = c.index.ensures.range.0 in
    let w = inv.4.wide c.index-lit.result.now pos le in
    omega (arith, w, c.code.ensures.value, c.loop-end.self-inside.values.ok.0)

pub index_mut-requires-in-loop-end-2 : goal.index_mut-requires-in-loop-end-2
index_mut-requires-in-loop-end-2 c =
    let inv = c.loop-end.invariant in
    let test = c.loop-end-test.true in
    let at = fall_lit c.self.inside.lits.items c.self.inside.entries.items c.self.inside.from_theory.items c.self.inside.starts.items c.loop-end.self-inside.entries.items c.loop-end.end c.index-lit.result.now inv.0 (omega arith) (rw inv.1 at c.index-lit.ensures) in
    let named = falling_in (steps_of c.self.inside.lits.items c.self.inside.entries.items c.self.inside.from_theory.items c.self.inside.starts.items) c.self.inside.entries.items c.loop-end.self-inside.entries.items c.loop-end.end (c.loop-end.end - 1) c.index-lit.result.now inv.0 (omega arith) at in
    let pos = named.0 in
    let le = named.1 in
    let size = inv.0.sized in
    let v = c.index.ensures.value in
    let v' = c.var.ensures.value in
    let r = c.index.ensures.range.0 in
    let o = var_of-neg c.index-lit.result.now in
    let w = inv.4.wide (neg c.index-lit.result.now) (omega arith) (omega arith) in
    omega (arith, w, c.code-in-loop-end.ensures.value, c.neg.ensures)

pub loop-end-preserved : goal.loop-end-preserved
loop-end-preserved c =
    let inv = c.loop-end.invariant in
    let test = c.loop-end-test.true in
    let at = fall_lit c.self.inside.lits.items c.self.inside.entries.items c.self.inside.from_theory.items c.self.inside.starts.items c.loop-end.self-inside.entries.items c.loop-end.end c.index-lit.result.now inv.0 (omega arith) (rw inv.1 at c.index-lit.ensures) in
    let named = falling_in (steps_of c.self.inside.lits.items c.self.inside.entries.items c.self.inside.from_theory.items c.self.inside.starts.items) c.self.inside.entries.items c.loop-end.self-inside.entries.items c.loop-end.end (c.loop-end.end - 1) c.index-lit.result.now inv.0 (omega arith) at in
    let pos = named.0 in
    let le = named.1 in
    let size = inv.0.sized in
    let v = c.index.ensures.value in
    let v' = c.var.ensures.value in
    let r = c.index.ensures.range.0 in
    let down : c.loop-end.end - 1 + 1 ≡ c.loop-end.end = omega arith in
    let was = get_or_read c.loop-end.self-inside.entries.items (c.index.result - 1) c.index_mut.result.now (omega (arith, c.loop-end.self-inside.entries.ok.0)) c.index_mut.ensures.value empty_entry in
    let keep : SameStanding (get_or c.loop-end.self-inside.entries.items (c.index.result - 1) empty_entry) (record { place = 0; level = c.index_mut.result.now.level; clause = c.index_mut.result.now.clause }) = record { level = ap (λ z. z.level) was; clause = ap (λ z. z.clause) was } in
    let w = inv.0.within in (
      falling_turn (steps_of c.self.inside.lits.items c.self.inside.entries.items c.self.inside.from_theory.items c.self.inside.starts.items) _ _ c.loop-end.end (c.loop-end.end - 1) c.index-lit.result.now (c.index.result - 1) _ inv.0 down at (omega arith) refl keep,
      inv.1,
      inv.2,
      inv.3,
      rw (c.open.ensures, c.open-in-loop-end.ensures) (valued_back c.loop-end.self-inside.values.items (length c.self.inside.entries.items) (steps_of c.self.inside.lits.items c.self.inside.entries.items c.self.inside.from_theory.items c.self.inside.starts.items) c.loop-end.end (c.loop-end.end - 1) c.index-lit.result.now _ _ c.self.invariant.0.table.apart inv.4 (sym down) (omega arith) pos le at c.code.ensures.value (c.code-in-loop-end.ensures.value ∙ c.neg.ensures)),
      omega arith,
    )

-- where what goes starts
start : (c : After-truncate-3) → IsStart (steps_of c.self.inside.lits.items c.self.inside.entries.items c.self.inside.from_theory.items c.self.inside.starts.items) (c.args.level + 1) c.start_in-kept.result
start c = rw (c.start_in-kept.ensures, c.as_slice.ensures.value) (start_is _ _ _ _ _ _ _ (c.args.level + 1) c.len.result c.self.invariant.0 (omega (arith, c.len.ensures, c.self.inside.lits.ok.0)))

-- the tables once the trail went back
popped : (c : After-truncate-3) → IsPopped c.self.inside.lits.items c.self.inside.entries.items c.self.inside.from_theory.items c.self.inside.starts.items c.truncate.new.self.items c.loop-end.self-inside.entries.items c.truncate-2.new.self.items c.truncate-3.new.self.items (vec_capacity c.truncate.new.self) (vec_capacity c.truncate-2.new.self) (vec_capacity c.truncate-3.new.self) c.start_in-kept.result
popped c =
    let inv = c.loop-end.invariant in
    let end : c.loop-end.end ≡ c.start_in-kept.result = let a = inv.5 in let b = c.loop-end-test.false in omega arith in
    held_back _ _ _ _ _ _ _ _ _ _ _ _ _ _ c.args.level c.start_in-kept.result c.self.invariant.0 (rw (← c.self.view_is) at c.requires) (start c) (rw end at inv.0)
    (rw inv.1 at c.truncate.ensures.items) (rw inv.2 at c.truncate-2.ensures.items) (rw inv.3 at c.truncate-3.ensures.items)
    (let e = rw inv.1 at c.truncate.ensures.capacity in omega arith) (let e = rw inv.2 at c.truncate-2.ensures.capacity in omega arith) (let e = rw inv.3 at c.truncate-3.ensures.capacity in omega arith)

-- the level is the one that was asked for
top : (c : After-truncate-3) → length c.truncate-3.new.self.items ≡ c.args.level
top c = rw (c.truncate-3.ensures.items, c.loop-end.invariant.3) (length-take-le c.args.level c.self.inside.starts.items (rw (← c.self.view_is) at c.requires))

pub invariant_of-self : goal.invariant_of-self
invariant_of-self c =
    let inv = c.loop-end.invariant in
    let p = popped c in
    let end : c.loop-end.end ≡ c.start_in-kept.result = let a = inv.5 in let b = c.loop-end-test.false in omega arith in
    (p.held, rw (inv.0.sized, p.steps, ← end) inv.4)

pub returns : goal.returns
returns c =
    let s = start c in
    rw (← c.self.view_is)
    (record {
      kept = c.start_in-kept.result;
      within = s.within;
      steps = (popped c).steps;
      low = λ i lt. let z = s.below i lt in omega arith;
      high = λ i a b. let z = s.rest i a b in omega arith;
      at = top c;
      declared = c.loop-end.invariant.0.sized;
    })
