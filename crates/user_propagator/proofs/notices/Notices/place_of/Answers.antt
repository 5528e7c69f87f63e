use Rattle.std.proofs.Common.{sym, arith}
use Rattle.flag_set.proofs.Placing.{not_past, not_there, place_read}
use Rattle.user_propagator.proofs.Seeing.{place_none}
use Rattle.user_propagator.proofs.Noticing.{place_yes, place_no}
use Rattle.user_propagator.proofs.notices.Notices.place_of.Goals as goal

pub returns-then-at-len : goal.returns-then-at-len
returns-then-at-len c =
    rw (← c.self.view_is) (sym (place_none _ _ (not_past _ _ _ _ c.self.invariant.placed _ (omega (arith, c.index-at.ensures.value)))))

pub returns-then-place-len : goal.returns-then-place-len
returns-then-place-len c =
    rw (← c.self.view_is)
    (sym (place_none _ _ (not_there _ _ _ _ c.self.invariant.placed _ c.index-place.result.now (place_read _ _ _ _ c.index-at.ensures.value (omega arith) c.index-place.ensures) (omega arith))))

pub returns-then-here : goal.returns-then-here
returns-then-here c =
    rw (← c.self.view_is)
    (sym (place_yes _ _ _ _ _ c.self.invariant c.args.var c.index-place.result.now c.var.result c.index.result.now c.eq-here.result (omega arith) c.index.ensures c.var.ensures.value c.eq-here.ensures c.if-here.true))

pub returns-else-here : goal.returns-else-here
returns-else-here c =
    rw (← c.self.view_is)
    (sym (place_no _ _ _ _ _ c.self.invariant c.args.var c.index-place.result.now c.var.result c.index.result.now c.eq-here.result (place_read _ _ _ _ c.index-at.ensures.value (omega arith) c.index-place.ensures) (omega arith) c.index.ensures c.var.ensures.value c.eq-here.ensures c.if-here.false))
