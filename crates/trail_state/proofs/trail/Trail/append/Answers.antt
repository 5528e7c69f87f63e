use Rattle.std.proofs.Common.{◌≡◌, ◌<◌, ◌+◌, ◌-◌, ◌∙◌, length, length-set, set, vec_capacity, ap, refl, arith}
use Rattle.sat_terms.specs.Literal.{neg, var_of}
use Rattle.sat_terms.proofs.Literals.{var_of-neg}
use Rattle.trail_state.specs.Trail.{level_after}
use Rattle.trail_state.specs.Table.{starts_after}
use Rattle.trail_state.proofs.Levels.{after_most}
use Rattle.trail_state.proofs.Values.{valued_push}
use Rattle.trail_state.proofs.Ranks.{rank-push}
use Rattle.trail_state.proofs.Steps.{steps-length, starts-length}
use Rattle.trail_state.proofs.Holding.{IsPushed, few_levels, room_for, held_push}
use Rattle.trail_state.proofs.trail.Trail.append.Goals as goal
use Rattle.trail_state.proofs.trail.Trail.append.Goals.{After-self-3-1}

pub overflow_cast-place : goal.overflow_cast-place
overflow_cast-place c =
    let few = few_levels _ _ _ _ _ _ _ c.self.invariant.0 in
    omega (arith, few.1, few.2, c.len-place.ensures, c.self.inside.lits.ok.0)

pub note-clause-requires-clause-starts : goal.note-clause-requires-clause-starts
note-clause-requires-clause-starts c =
    let few = few_levels _ _ _ _ _ _ _ c.self.invariant.0 in
    omega (arith, few.0, (room_for _ _ _ _ _ _ _ c.args.lit c.self.invariant.0 c.var.ensures.range.0 (rw (← c.self.view_is) at c.requires.declared) (rw (← c.self.view_is) at c.requires.unassigned)), c.self.invariant.0.starts_room)

pub note-clause-requires-clause-room : goal.note-clause-requires-clause-room
note-clause-requires-clause-room c = omega (arith, (room_for _ _ _ _ _ _ _ c.args.lit c.self.invariant.0 c.var.ensures.range.0 (rw (← c.self.view_is) at c.requires.declared) (rw (← c.self.view_is) at c.requires.unassigned)), c.self.invariant.0.flags_room, c.len-place.ensures, c.self.inside.lits.ok.0)

pub unreachable-requires : goal.unreachable-requires
unreachable-requires c = omega (arith, c.in-Err.ensures.full, c.self.inside.lits.ok.0, (room_for _ _ _ _ _ _ _ c.args.lit c.self.invariant.0 c.var.ensures.range.0 (rw (← c.self.view_is) at c.requires.declared) (rw (← c.self.view_is) at c.requires.unassigned)), c.self.invariant.0.lits_room)

pub overflow_add-place : goal.overflow_add-place
overflow_add-place c =
    let few = few_levels _ _ _ _ _ _ _ c.self.invariant.0 in
    omega (arith, few.1, few.2, c.len-place.ensures, c.self.inside.lits.ok.0)

-- the tables once the literal came
pushed : (c : After-self-3-1) → IsPushed c.self.inside.lits.items c.self.inside.entries.items c.self.inside.from_theory.items c.self.inside.starts.items c.push.new.self.items (set c.self.inside.entries.items (c.index.result - 1) (record { place = c.len-place.result + 1; level = c.len.result; clause = c.note-clause.result })) c.note-clause.new.from_theory.items c.note-clause.new.starts.items (vec_capacity c.push.new.self) (vec_capacity c.note-clause.new.from_theory) (vec_capacity c.note-clause.new.starts) c.args.lit c.args.reason
pushed c =
    let place : c.len-place.result ≡ length c.self.inside.lits.items = omega (arith, c.len-place.ensures, c.self.inside.lits.ok.0) in
    let level : c.len.result ≡ length c.note-clause.new.starts.items = omega (arith, c.len.ensures, c.note-clause.new.starts.ok.0) in
    let at : c.index.result - 1 ≡ var_of c.args.lit - 1 = omega arith in
    held_push _ _ _ _ _ _ _ _ _ _ _ _ _ _ c.args.lit c.note-clause.result c.len-place.result c.args.reason c.self.invariant.0 c.var.ensures.range.0 (rw (← c.self.view_is) at c.requires.declared) (rw (← c.self.view_is) at c.requires.unassigned)
    place c.note-clause.ensures.clause c.in-Ok.ensures.items c.note-clause.ensures.flags c.note-clause.ensures.starts (rw (at, level) refl) c.in-Ok.ensures.capacity c.note-clause.ensures.flags_room c.note-clause.ensures.starts_room

pub overflow_cast-len : goal.overflow_cast-len
overflow_cast-len c =
    let few = few_levels _ _ _ _ _ _ _ c.self.invariant.0 in
    let more = starts-length c.self.inside.starts.items c.len-place.result c.args.reason in
    let most = after_most (length c.self.inside.starts.items) c.args.reason in
    let long : length c.note-clause.new.starts.items ≡ length (starts_after c.self.inside.starts.items c.len-place.result c.args.reason) = ap length c.note-clause.ensures.starts in
    omega (arith, few.0, few.1, few.2, c.len.ensures, c.note-clause.new.starts.ok.0)

pub index_mut-requires-3 : goal.index_mut-requires-3
index_mut-requires-3 c =
    let named = var_of-neg c.args.lit in
    let d = rw (← c.self.view_is) at c.requires.declared in
    let r = c.var.ensures.range.0 in
    let w = c.self.invariant.1.wide (neg c.args.lit) (omega arith) (omega arith) in
    let e = c.neg.ensures in
    let v = c.code-2.ensures.value in
    omega arith

pub invariant_of-self : goal.invariant_of-self
invariant_of-self c =
    let p = pushed c in (
      p.held,
      rw (length-set, c.of.ensures, c.of-2.ensures) (valued_push c.self.inside.values.items (length c.self.inside.entries.items) _ _ (record { lit = c.args.lit; level = level_after (length c.self.inside.starts.items) c.args.reason; reason = c.args.reason }) c.code.result c.code-2.result c.self.invariant.1 c.var.ensures.range.0 (rw (← c.self.view_is) at c.requires.declared) (rw (← c.self.view_is) at c.requires.unassigned) p.steps c.code.ensures.value (c.code-2.ensures.value ∙ c.neg.ensures)),
    )

pub returns-clause-steps : goal.returns-clause-steps
returns-clause-steps c = rw (← c.self.view_is) (pushed c).steps

pub returns-clause-rises : goal.returns-clause-rises
returns-clause-rises c =
    let left = room_for _ _ _ _ _ _ _ c.args.lit c.self.invariant.0 c.var.ensures.range.0 (rw (← c.self.view_is) at c.requires.declared) (rw (← c.self.view_is) at c.requires.unassigned) in
    let size = steps-length c.self.inside.lits.items c.self.inside.entries.items c.self.inside.from_theory.items c.self.inside.starts.items in
    rw (← c.self.view_is, (pushed c).steps, length-set) (rank-push _ _ _ (omega (arith, left, size)))
