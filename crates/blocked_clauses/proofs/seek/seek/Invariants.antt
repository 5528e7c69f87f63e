use Rattle.blocked_clauses.proofs.Asking.{Seeking}
use Rattle.blocked_clauses.proofs.seek.seek.Given as goal

abbrev pub invariant-loop-id : goal.invariant-loop-id
invariant-loop-id l = Seeking l.store l.lit l.id-items l.id-index l.fn.steps l.steps l.limit
