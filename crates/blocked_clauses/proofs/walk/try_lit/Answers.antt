use Rattle.firm_terms.proofs.Resolving.{blocked_witness}
use Rattle.blocked_clauses.proofs.walk.try_lit.Goals as goal

pub park-requires-clause-witnessed : goal.park-requires-clause-witnessed
park-requires-clause-witnessed c =
    blocked_witness c.args.kernel.now.store c.in-At.id c.args.lit (rw c.store.ensures at c.in-At.ensures.blocked)
