use Rattle.std.proofs.Common.{vec_capacity, refl, arith}
use Rattle.user_propagator.proofs.Seeing.{front_is}
use Rattle.user_propagator.proofs.Noticing.{noticed_cut}
use Rattle.user_propagator.proofs.notices.Notices.cut.Goals as goal

pub invariant_of-self : goal.invariant_of-self
invariant_of-self c =
    rw c.truncate.ensures.items
    (noticed_cut _ _ _ _ _ c.self.invariant c.args.level c.front_len-kept.result (vec_capacity c.truncate.new.self) (rw (← c.self.view_is) at c.requires)
    (rw c.deref.ensures.value at c.front_len-kept.ensures) (omega (arith, c.truncate.ensures.capacity)))

pub returns : goal.returns
returns c =
    let front = rw c.deref.ensures.value at c.front_len-kept.ensures in
    rw (c.truncate.ensures.items, ← c.self.view_is, front_is c.self.inside.seen.items c.args.level c.front_len-kept.result front) refl
