use Rattle.blocked_clauses.proofs.Asking.{Asking}
use Rattle.blocked_clauses.proofs.seek.ask.Given as goal

abbrev pub invariant-loop-other : goal.invariant-loop-other
invariant-loop-other l = Asking l.store l.fn.id l.lit l.others l.other-index l.fn.steps l.steps l.limit
