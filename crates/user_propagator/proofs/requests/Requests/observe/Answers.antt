use Rattle.std.proofs.Common.{◌++◌, ◌∷◌, [], ap, ◌∙◌}
use Rattle.user_propagator.specs.Waiting.{Waiting, vars_in}
use Rattle.user_propagator.proofs.Queues.{vars_push, AreVars-push}
use Rattle.user_propagator.proofs.requests.Requests.observe.Goals as goal

pub invariant_of-self-2 : goal.invariant_of-self-2
invariant_of-self-2 c = (rw c.in_ok-enqueue.ensures.ok (AreVars-push _ _ c.self.invariant.0), c.self.invariant.1, c.self.invariant.2)

pub returns-clause-ok : goal.returns-clause-ok
returns-clause-ok c =
    let pushed = ap vars_in c.in_ok-enqueue.ensures.ok ∙ vars_push c.self.inside.wanted.items c.args.var in
    rw pushed (ap (λ (w : Waiting). record w { wanted = w.wanted ++ c.args.var ∷ [] }) c.self.view_is)
