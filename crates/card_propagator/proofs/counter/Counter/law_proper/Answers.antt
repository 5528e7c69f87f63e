use Rattle.card_propagator.specs.Counting.{Counting, IsProper}
use Rattle.std.proofs.Common.{subst}
use Rattle.card_propagator.proofs.counter.Counter.law_proper.Goals as goal

pub returns : goal.returns
returns c = subst (λ (x : Counting). IsProper x) c.self.view_is (record { known = c.self.invariant.held.known; cards = c.self.invariant.held.cards })
