use Rattle.decide_order.specs.Ordering.{SameVars, Follows}
use Rattle.decide_order.proofs.order.Order.greatest.Given as goal

abbrev pub invariant-loop-var : goal.invariant-loop-var
invariant-loop-var l = record {
  same : SameVars l.initial.self l.self;
  follows : Follows l.initial.self l.trail → Follows l.self l.trail;
}

abbrev pub decreases-loop-var : goal.decreases-loop-var
decreases-loop-var l = l.self.heap.size
