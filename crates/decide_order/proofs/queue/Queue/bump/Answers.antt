use Rattle.std.proofs.Common.{◌≤◌, ◌<◌, ◌^◌, refl, arith}
use Rattle.decide_order.proofs.Rings.{queue_bump, queue_newest}
use Rattle.decide_order.proofs.queue.Queue.bump.Goals as goal

pub invariant_of-self : goal.invariant_of-self
invariant_of-self c =
    let known : c.index-number.result ≤ c.self.inside.count = omega (arith, rw (← c.self.view_is) at c.requires, c.index-number.ensures.value) in
    let pos : 0 < c.index-number.result = omega (arith, c.index-number.ensures.range.0) in
    let some : 0 < c.index-after.result.now = omega (arith, c.if-after-eq0.false) in
    let small : c.self.inside.last < 2 ^ 63 = omega (arith, c.if-self-ge-LAST_STAMP.false) in
    queue_bump _ _ _ _ _ _ _ _ c.index-number.result c.index-after.result.now c.index-before.result.now c.index-newest.result.now c.self.invariant pos known c.index-after.ensures some small c.index-before.ensures c.index-newest.ensures known

pub invariant_of-self-else-was_ahead : goal.invariant_of-self-else-was_ahead
invariant_of-self-else-was_ahead c =
    let known : c.index-number.result ≤ c.self.inside.count = omega (arith, rw (← c.self.view_is) at c.requires, c.index-number.ensures.value) in
    let pos : 0 < c.index-number.result = omega (arith, c.index-number.ensures.range.0) in
    let some : 0 < c.index-after.result.now = omega (arith, c.if-after-eq0.false) in
    let small : c.self.inside.last < 2 ^ 63 = omega (arith, c.if-self-ge-LAST_STAMP.false) in
    queue_bump _ _ _ _ _ _ _ _ c.index-number.result c.index-after.result.now c.index-before.result.now c.index-newest.result.now c.self.invariant pos known c.index-after.ensures some small c.index-before.ensures c.index-newest.ensures c.self.invariant.known

pub returns-then-was_ahead-clause-newest : goal.returns-then-was_ahead-clause-newest
returns-then-was_ahead-clause-newest c =
    let known : c.index-number.result ≤ c.self.inside.count = omega (arith, rw (← c.self.view_is) at c.requires, c.index-number.ensures.value) in
    λ small. queue_newest _ _ _ _ _ _ _ c.index-number.result c.args.var c.self.invariant (omega (arith, c.index-number.ensures.range.0, c.index-number.ensures.value)) (omega (arith, known, c.index-number.ensures.value)) c.index-number.ensures.value _ _ (rw (← c.self.view_is) refl) refl refl

pub returns-else-was_ahead-clause-newest : goal.returns-else-was_ahead-clause-newest
returns-else-was_ahead-clause-newest c =
    let known : c.index-number.result ≤ c.self.inside.count = omega (arith, rw (← c.self.view_is) at c.requires, c.index-number.ensures.value) in
    λ small. queue_newest _ _ _ _ _ _ _ c.index-number.result c.args.var c.self.invariant (omega (arith, c.index-number.ensures.range.0, c.index-number.ensures.value)) (omega (arith, known, c.index-number.ensures.value)) c.index-number.ensures.value _ _ (rw (← c.self.view_is) refl) refl refl
