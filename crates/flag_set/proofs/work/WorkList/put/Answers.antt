use Rattle.std.proofs.Common.{arith, sym}
use Rattle.flag_set.proofs.Placing.{room_for, placed_push}
use Rattle.flag_set.proofs.work.WorkList.put.Goals as goal

pub unreachable-requires : goal.unreachable-requires
unreachable-requires g c =
    let room = room_for _ _ _ _ c.self.invariant (g.T.Member.number_of c.args.member) (rw (← c.self.view_is) at c.requires) (rw (← c.self.view_is) at (sym c.if-has.ensures)) in
    omega (arith, room, c.self.invariant.room, c.in-Err.ensures.full)

pub overflow_cast-place : goal.overflow_cast-place
overflow_cast-place g c =
    let room = room_for _ _ _ _ c.self.invariant (g.T.Member.number_of c.args.member) (rw (← c.self.view_is) at c.requires) (rw (← c.self.view_is) at (sym c.if-has.ensures)) in
    omega (arith, room, c.self.invariant.few)

pub invariant_of-self : goal.invariant_of-self
invariant_of-self g c =
    rw c.in-Ok.ensures.items
    (placed_push _ _ _ _ c.self.invariant c.args.member _ _ _ c.number.ensures.value (omega arith)
    (omega (arith, c.number.ensures.value, rw (← c.self.view_is) at c.requires))
    (rw (← c.number.ensures.value, ← c.self.view_is) at (sym c.if-has.ensures)) c.push.ensures.capacity)
