use Rattle.std.proofs.Common.{◌≡◌, ◌∙◌, vec_capacity, refl, arith}
use Rattle.sat_terms.specs.Literal.{var_of}
use Rattle.flag_set.proofs.Placing.{room_for}
use Rattle.user_propagator.proofs.Seeing.{unseen}
use Rattle.user_propagator.proofs.Noticing.{noticed_put}
use Rattle.user_propagator.proofs.notices.Notices.put.Goals as goal

pub unreachable-requires : goal.unreachable-requires
unreachable-requires c =
    let wide = c.self.invariant.wide (var_of c.args.lit) (rw (← c.self.view_is) at c.requires.observed) in
    let room = room_for _ _ _ _ c.self.invariant.placed (var_of c.args.lit) wide (unseen _ c.args.lit (rw (← c.self.view_is) at c.requires.unseen)) in
    omega (arith, room, c.self.invariant.placed.room, c.in-Err.ensures.full)

pub overflow_cast-place : goal.overflow_cast-place
overflow_cast-place c =
    let wide = c.self.invariant.wide (var_of c.args.lit) (rw (← c.self.view_is) at c.requires.observed) in
    let room = room_for _ _ _ _ c.self.invariant.placed (var_of c.args.lit) wide (unseen _ c.args.lit (rw (← c.self.view_is) at c.requires.unseen)) in
    omega (arith, room, c.self.invariant.placed.few)

pub invariant_of-self : goal.invariant_of-self
invariant_of-self c =
    let same : c.index.result ≡ var_of c.args.lit = c.index.ensures.value ∙ c.var.ensures.value in
    rw c.in-Ok.ensures.items
    (noticed_put _ _ _ _ _ c.self.invariant (record { lit = c.args.lit; level = c.self.inside.level; decision = c.args.decision }) c.index.result c.len-place.result (vec_capacity c.push.new.self) refl
    (rw (← c.self.view_is) at c.requires.observed)
    (rw same (unseen _ c.args.lit (rw (← c.self.view_is) at c.requires.unseen)))
    same (omega (arith, c.len-place.ensures)) c.push.ensures.capacity)
