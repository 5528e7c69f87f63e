use Rattle.std.proofs.Common.{◌<◌, ◌≤◌, ℕ, length}
use Rattle.sat_terms.specs.Literal.{var_of}
use Rattle.trail_state.specs.Trail.{step}
use Rattle.decide_order.specs.Ordering.{SameActive, Follows, IsListed}
use Rattle.decide_order.proofs.order.Order.back_to.Given as goal

abbrev pub invariant-loop-kept : goal.invariant-loop-kept
invariant-loop-kept l = record {
  within : l.kept ≤ length l.trail.steps;
  same : SameActive l.initial.self l.self;
  follows : Follows l.initial.self l.trail → Follows l.self l.trail;
  passed : (i : ℕ) → l.kept ≤ i → i < length l.trail.steps → IsListed l.self (var_of (step l.trail.steps i).lit);
}

abbrev pub decreases-loop-kept : goal.decreases-loop-kept
decreases-loop-kept l = l.kept
