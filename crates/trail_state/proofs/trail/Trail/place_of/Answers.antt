use Rattle.std.proofs.Common.{◌-◌, sym, arith}
use Rattle.trail_state.proofs.Places.{level_none}
use Rattle.trail_state.proofs.Holding.{entry_past, entry_zero_at, entry_here}
use Rattle.trail_state.proofs.trail.Trail.place_of.Goals as goal

pub returns-then-at-len : goal.returns-then-at-len
returns-then-at-len c =
    let r = c.index.ensures.range.0 in
    let v = c.index.ensures.value in
    let long = c.len.ensures in
    let ok = c.self.inside.entries.ok.0 in
    let past = c.if-at-len.true in
    rw (← c.self.view_is) (sym (entry_past _ _ _ _ _ _ _ c.args.var (c.index.result - 1) c.self.invariant.0 (omega arith) (omega arith) (omega arith)))

pub returns-then-place-eq0 : goal.returns-then-place-eq0
returns-then-place-eq0 c =
    let r = c.index.ensures.range.0 in
    let v = c.index.ensures.value in
    let long = c.len.ensures in
    let ok = c.self.inside.entries.ok.0 in
    let in' = c.if-at-len.false in
    rw (← c.self.view_is) (sym (entry_zero_at _ _ _ _ _ _ _ c.args.var (c.index.result - 1) c.index-2.result.now c.self.invariant.0 (omega arith) (omega arith) (omega arith) c.index-2.ensures c.if-place-eq0.true))

pub returns : goal.returns
returns c =
    let r = c.index.ensures.range.0 in
    let v = c.index.ensures.value in
    let long = c.len.ensures in
    let ok = c.self.inside.entries.ok.0 in
    let in' = c.if-at-len.false in
    let n = c.if-place-eq0.false in
    rw (← c.self.view_is) (sym (entry_here _ _ _ _ _ _ _ c.args.var (c.index.result - 1) c.index-2.result.now c.self.invariant.0 (omega arith) (omega arith) (omega arith) c.index-2.ensures (omega arith)))
