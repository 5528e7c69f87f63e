use Rattle.std.proofs.Common.{◌≡◌, ◌-◌, ◌+◌, ◌*◌, length, vec_capacity, refl, arith}
use Rattle.std.proofs.lemmas.List.{length-map}
use Rattle.trail_state.specs.declared.trail.Entry.{Entry}
use Rattle.trail_state.specs.Table.{steps_of, IsHeld}
use Rattle.trail_state.proofs.Values.{valued_wider}
use Rattle.trail_state.proofs.Holding.{few_levels, held_roomier, held_declared}
use Rattle.trail_state.proofs.trail.Trail.declare.Goals as goal
use Rattle.trail_state.proofs.trail.Trail.declare.Goals.{In_ok-resize-2}

pub overflow_sub-count : goal.overflow_sub-count
overflow_sub-count c =
    let few = few_levels _ _ _ _ _ _ _ c.self.invariant.0 in
    let more = c.if-count-len.false in
    omega (arith, few.1, c.len.ensures, c.self.inside.entries.ok.0, c.len-2.ensures, c.self.inside.lits.ok.0)

pub overflow_sub-count-2 : goal.overflow_sub-count-2
overflow_sub-count-2 c =
    let few = few_levels _ _ _ _ _ _ _ c.self.invariant.0 in
    let more = c.if-count-len.false in
    omega (arith, few.1, c.self.invariant.0.flags, c.len.ensures, c.self.inside.entries.ok.0, c.len-3.ensures, c.self.inside.from_theory.ok.0)

pub overflow_sub-count-3 : goal.overflow_sub-count-3
overflow_sub-count-3 c =
    let few = few_levels _ _ _ _ _ _ _ c.self.invariant.0 in
    let more = c.if-count-len.false in
    omega (arith, few.0, few.1, c.len.ensures, c.self.inside.entries.ok.0, c.len-4.ensures, c.self.inside.starts.ok.0)

pub invariant_of-self-in_err-resize-2 : goal.invariant_of-self-in_err-resize-2
invariant_of-self-in_err-resize-2 c =
    let more = c.if-count-len.false in
    let long = length-map c.self.inside.entries.items (λ (z : Entry). z.place) in
    rw (c.in_err-resize-2.ensures.items, c.in_ok-reserve.ensures.items, c.in_ok-reserve-2.ensures.items, c.in_ok-reserve-3.ensures.items) (
      held_roomier _ _ _ _ _ _ _ _ _ _ c.self.invariant.0 c.in_ok-reserve.ensures.capacity c.in_ok-reserve-2.ensures.capacity c.in_ok-reserve-3.ensures.capacity,
      valued_wider c.self.inside.values.items _ _ (length c.self.inside.entries.items) (length c.self.inside.entries.items) c.index-count.result (2 * c.index-count.result + 2) _ _ c.self.invariant.1 c.self.invariant.0.table (omega (arith, c.len.ensures, c.self.inside.entries.ok.0)) (omega (arith, c.len.ensures, c.self.inside.entries.ok.0)) refl (omega (arith, c.self.inside.values.ok.0)) (rw c.open.ensures at c.in_ok-resize.ensures.items),
    )

-- the tables with more variables
wider : (c : In_ok-resize-2) → (steps_of c.self.inside.lits.items c.resize-2.new.self.items c.self.inside.from_theory.items c.self.inside.starts.items ≡ steps_of c.self.inside.lits.items c.self.inside.entries.items c.self.inside.from_theory.items c.self.inside.starts.items)
    × (length c.resize-2.new.self.items ≡ c.index-count.result) × IsHeld c.self.inside.lits.items c.resize-2.new.self.items c.self.inside.from_theory.items c.self.inside.starts.items (vec_capacity c.reserve.new.self) (vec_capacity c.reserve-2.new.self) (vec_capacity c.reserve-3.new.self)
wider c =
    let few = c.index-count.ensures.range.1 in
    let more = c.if-count-len.false in
    let lits = c.in_ok-reserve.ensures in
    let flags = c.in_ok-reserve-2.ensures in
    let starts = c.in_ok-reserve-3.ensures in
    held_declared _ _ _ _ _ _ _ _ _ _ _ (length c.self.inside.entries.items) c.index-count.result c.self.invariant.0 refl (omega (arith, c.len.ensures, c.self.inside.entries.ok.0)) few (rw (c.no_entry.ensures, c.self.inside.entries.ok.0) at c.in_ok-resize-2.ensures.items)
    (omega (arith, lits.ok, lits.len, c.len-2.ensures)) (omega (arith, flags.ok, flags.len, c.len-3.ensures)) (omega (arith, starts.ok, starts.len, c.len-4.ensures))

pub invariant_of-self-2 : goal.invariant_of-self-2
invariant_of-self-2 c =
    let w = wider c in
    let more = c.if-count-len.false in
    let long = length-map c.self.inside.entries.items (λ (z : Entry). z.place) in
    rw (c.in_ok-reserve.ensures.items, c.in_ok-reserve-2.ensures.items, c.in_ok-reserve-3.ensures.items) (
      w.2,
      rw (w.0, w.1) (valued_wider c.self.inside.values.items _ _ (length c.self.inside.entries.items) c.index-count.result c.index-count.result (2 * c.index-count.result + 2) _ _ c.self.invariant.1 c.self.invariant.0.table (omega (arith, c.len.ensures, c.self.inside.entries.ok.0)) (omega arith) refl (omega (arith, c.self.inside.values.ok.0)) (rw c.open.ensures at c.in_ok-resize.ensures.items)),
    )

pub returns-clause-steps : goal.returns-clause-steps
returns-clause-steps c = rw (← c.self.view_is, c.in_ok-reserve.ensures.items, c.in_ok-reserve-2.ensures.items, c.in_ok-reserve-3.ensures.items) (wider c).0
