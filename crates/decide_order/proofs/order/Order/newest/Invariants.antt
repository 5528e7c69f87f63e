use Rattle.std.proofs.Common.{◌≡◌}
use Rattle.decide_order.specs.Line.{at}
use Rattle.decide_order.specs.Ordering.{SameVars, Follows}
use Rattle.decide_order.proofs.order.Order.newest.Given as goal

abbrev pub invariant-loop-var : goal.invariant-loop-var
invariant-loop-var l = record {
  same : SameVars l.initial.self l.self;
  follows : Follows l.initial.self l.trail → Follows l.self l.trail;
  stamps : l.self.queue.stamps ≡ l.initial.self.queue.stamps;
}

abbrev pub decreases-loop-var : goal.decreases-loop-var
decreases-loop-var l = at l.self.queue.stamps l.self.queue.cursor
