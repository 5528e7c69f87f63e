use Rattle.std.proofs.Common.{◌++◌, ◌∷◌, [], ap, ◌∙◌}
use Rattle.user_propagator.specs.Waiting.{Waiting, clauses_in}
use Rattle.user_propagator.proofs.Queues.{clauses_push, AreClauses-push}
use Rattle.user_propagator.proofs.requests.Requests.hand.Goals as goal

pub invariant_of-self-2 : goal.invariant_of-self-2
invariant_of-self-2 c = (c.self.invariant.0, rw c.in_ok-enqueue.ensures.ok (AreClauses-push _ _ _ c.self.invariant.1), c.self.invariant.2)

pub returns-clause-ok : goal.returns-clause-ok
returns-clause-ok c =
    let pushed = ap clauses_in c.in_ok-enqueue.ensures.ok ∙ clauses_push c.self.inside.handed.items c.args.clause c.args.forgettable in
    rw pushed (ap (λ (w : Waiting). record w { handed = w.handed ++ record { clause = c.args.clause; forgettable = c.args.forgettable } ∷ [] }) c.self.view_is)
