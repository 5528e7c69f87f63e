use Rattle.std.proofs.Common.{◌≡◌, ◌<◌, ◌≤◌, ◌^◌, ℕ}
use Rattle.decide_order.specs.Ordering.{IsOpen}
use Rattle.decide_order.proofs.order.Order.first_open.Given as goal

abbrev pub invariant-loop-number : goal.invariant-loop-number
invariant-loop-number l = (v : ℕ) → 0 < v → v < l.number → IsOpen l.self l.trail v → ⊥
