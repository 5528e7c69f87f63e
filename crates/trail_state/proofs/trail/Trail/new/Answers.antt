use Rattle.trail_state.proofs.Steps.{steps-none}
use Rattle.trail_state.proofs.Holding.{held_new, valued_new}
use Rattle.trail_state.proofs.trail.Trail.new.Goals as goal

pub invariant_of-result : goal.invariant_of-result
invariant_of-result c = rw (c.new.ensures.items, c.new-2.ensures.items, c.new-3.ensures.items, c.new-4.ensures.items, c.new-5.ensures.items) (held_new _ _ _, valued_new)

pub returns-clause-steps : goal.returns-clause-steps
returns-clause-steps c = rw c.new.ensures.items (steps-none _ _ _)
