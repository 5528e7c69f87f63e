use Rattle.std.proofs.Common.{◌≤◌}
use Rattle.decide_order.specs.Ordering.{SameVars, KeepsFollowing}
use Rattle.decide_order.proofs.order.Order.bump_all.Given as goal

abbrev pub invariant-loop-one : goal.invariant-loop-one
invariant-loop-one l = record {
  same : SameVars l.initial.self l.self;
  follows : KeepsFollowing l.initial.self l.self;
}

abbrev pub invariant-loop-lit : goal.invariant-loop-lit
invariant-loop-lit l = record {
  same : SameVars l.initial.self l.self;
  follows : KeepsFollowing l.initial.self l.self;
}
