use Rattle.std.proofs.Common.{arith, sym}
use Rattle.flag_set.proofs.Placing.{not_past, not_there, there_read, place_read}
use Rattle.flag_set.proofs.work.WorkList.has.Goals as goal

pub returns-then-at-len : goal.returns-then-at-len
returns-then-at-len g c =
    rw (← c.self.view_is) (sym (not_past _ _ _ _ c.self.invariant _ (omega (arith, c.number-at.ensures.value))))

pub returns-then-place-len : goal.returns-then-place-len
returns-then-place-len g c =
    rw (← c.self.view_is)
    (sym (not_there _ _ _ _ c.self.invariant _ c.index.result.now (place_read _ _ _ _ c.number-at.ensures.value (omega arith) c.index.ensures) (omega arith)))

pub returns : goal.returns
returns g c =
    rw (← c.self.view_is)
    (there_read _ _ _ _ _ _ c.index.result.now _ _ c.self.invariant c.number-at.ensures.value (place_read _ _ _ _ c.number-at.ensures.value (omega arith) c.index.ensures) (omega arith) c.index-2.ensures c.number.ensures.value)
