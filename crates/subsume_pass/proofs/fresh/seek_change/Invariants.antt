use Rattle.subsume_pass.proofs.Seeking.{Seeking}
use Rattle.subsume_pass.proofs.fresh.seek_change.Given as goal

abbrev pub invariant-loop-by : goal.invariant-loop-by
invariant-loop-by l = Seeking l.fn.kernel l.kernel l.id l.ids l.by-index l.fn.steps l.steps l.limit
