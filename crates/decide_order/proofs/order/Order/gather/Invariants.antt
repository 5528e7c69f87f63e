use Rattle.decide_order.specs.Ordering.{SameVars, KeepsFollowing}
use Rattle.decide_order.proofs.order.Order.gather.Given as goal

abbrev pub invariant-loop-lit : goal.invariant-loop-lit
invariant-loop-lit l = record {
  same : SameVars l.initial.self l.self;
  follows : KeepsFollowing l.initial.self l.self;
}
