use Rattle.subsume_pass.proofs.Sourcing.{Gathering}
use Rattle.subsume_pass.proofs.candidates.gather.Given as goal

abbrev pub invariant-loop-by : goal.invariant-loop-by
invariant-loop-by l = Gathering l.kernel.store l.id l.lit l.by-items l.by-index l.fn.ids.items l.ids.items
