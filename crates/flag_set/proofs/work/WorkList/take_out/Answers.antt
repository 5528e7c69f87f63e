use Rattle.std.proofs.Common.{◌∙◌, ap, arith, sym, not, ◌&&◌, eqb}
use Rattle.flag_set.specs.Listed.{lists}
use Rattle.flag_set.proofs.Placing.{spot_known, spot_of, last_read, placed_out, lists_out, out_by_place}
use Rattle.flag_set.proofs.work.WorkList.take_out.Goals as goal

pub index-place-requires : goal.index-place-requires
index-place-requires g c =
    omega (arith, c.number.ensures.value, spot_known _ _ _ _ (g.T.Member.number_of c.args.member) c.self.invariant (rw (← c.self.view_is) at (sym c.if-not-has.ensures)))

pub index_mut-requires : goal.index_mut-requires
index_mut-requires g c =
    let spot = spot_of _ _ _ _ _ _ _ c.self.invariant (rw (← c.self.view_is) at (sym c.if-not-has.ensures)) c.number.ensures.value c.index-place.ensures in
    let in' = spot.within in
    omega (arith, spot.last, last_read g.T.Member.number_of c.self.inside.members.items _ _ _ (omega arith) c.index-last.ensures c.number-2.ensures.value)

pub swap_remove-requires : goal.swap_remove-requires
swap_remove-requires g c =
    let spot = spot_of _ _ _ _ _ _ _ c.self.invariant (rw (← c.self.view_is) at (sym c.if-not-has.ensures)) c.number.ensures.value c.index-place.ensures in
    omega (arith, spot.within)

pub invariant_of-self : goal.invariant_of-self
invariant_of-self g c =
    let spot = spot_of _ _ _ _ _ _ _ c.self.invariant (rw (← c.self.view_is) at (sym c.if-not-has.ensures)) c.number.ensures.value c.index-place.ensures in
    let in' = spot.within in
    rw c.swap_remove.ensures.items
    (placed_out _ _ _ _ c.self.invariant c.swap_remove.result _ spot.within _ _
    (last_read g.T.Member.number_of c.self.inside.members.items _ _ _ (omega arith) c.index-last.ensures c.number-2.ensures.value)
    (omega (arith, c.swap_remove.ensures.capacity)))

pub returns-clause-place : goal.returns-clause-place
returns-clause-place g c =
    let spot = spot_of _ _ _ _ _ _ _ c.self.invariant (rw (← c.self.view_is) at (sym c.if-not-has.ensures)) c.number.ensures.value c.index-place.ensures in
    rw (c.swap_remove.ensures.items, ← c.self.view_is) (λ k in' is. out_by_place _ _ _ _ _ k c.args.member c.swap_remove.result c.self.invariant spot in' is)

pub returns-clause-others : goal.returns-clause-others
returns-clause-others g c n =
    let spot = spot_of _ _ _ _ _ _ _ c.self.invariant (rw (← c.self.view_is) at (sym c.if-not-has.ensures)) c.number.ensures.value c.index-place.ensures in
    rw (c.swap_remove.ensures.items, ← c.self.view_is)
    (lists_out _ _ _ _ c.self.invariant c.swap_remove.result _ spot.within n ∙ ap (λ x. lists g.T.Member.number_of c.self.inside.members.items n && not (eqb x n)) spot.here)
