use Rattle.std.proofs.Common.{arith}
use Rattle.clause_store.proofs.Standing.{found_low}
use Rattle.clause_store.proofs.occurrences.position_of.Goals as goal

pub returns-clause-within : goal.returns-clause-within
returns-clause-within c = (found_low _ _ _ c.requires.rising c.requires.holds c.loop-low.invariant.below (λ k ge in'. c.loop-low.invariant.above k (omega (arith, ge)) in')).0

pub returns-clause-there : goal.returns-clause-there
returns-clause-there c = (found_low _ _ _ c.requires.rising c.requires.holds c.loop-low.invariant.below (λ k ge in'. c.loop-low.invariant.above k (omega (arith, ge)) in')).1
