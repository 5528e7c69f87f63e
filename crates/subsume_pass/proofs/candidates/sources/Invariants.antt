use Rattle.subsume_pass.proofs.Sourcing.{Sourcing}
use Rattle.subsume_pass.proofs.candidates.sources.Given as goal

abbrev pub invariant-loop-lit : goal.invariant-loop-lit
invariant-loop-lit l = Sourcing l.kernel.store l.id l.lit-items l.lit-index l.ids.items
