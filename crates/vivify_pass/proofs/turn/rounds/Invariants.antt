use Rattle.firm_terms.specs.Firm.{lits_sum}
use Rattle.vivify_pass.proofs.Circling.{Circling}
use Rattle.vivify_pass.proofs.turn.rounds.Given as goal

abbrev pub invariant-loop-ids : goal.invariant-loop-ids
invariant-loop-ids l = Circling l.fn.kernel l.kernel l.watches l.trail l.ids.items l.start l.steps l.limit

abbrev pub decreases-loop-ids : goal.decreases-loop-ids
decreases-loop-ids l = lits_sum l.kernel.store
