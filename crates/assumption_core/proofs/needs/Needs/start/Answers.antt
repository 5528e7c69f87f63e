use Rattle.assumption_core.proofs.Walking.{core_of_lit, core_of_clause}
use Rattle.assumption_core.specs.Core.{asks, falsified_by}
use Rattle.assumption_core.proofs.needs.Needs.start.Goals as goal

pub returns-in-Falsified-clause-blocked : goal.returns-in-Falsified-clause-blocked
returns-in-Falsified-clause-blocked c =
    let start = rw c.in-Falsified.is at c.requires.start in
    λ admits rooted.
    rw c.in-Falsified.is
    (core_of_lit c.args.store.now admits c.args.trail.now.steps _ rooted c.law_shape.ensures c.in-Falsified.lit _ start.1 c.mark.ensures.covered)

pub returns-in-Conflict-clause-blocked : goal.returns-in-Conflict-clause-blocked
returns-in-Conflict-clause-blocked c =
    let start = rw c.in-Conflict.is at c.requires.start in
    λ admits rooted.
    core_of_clause c.args.store.now admits c.args.trail.now.steps _ rooted c.law_shape.ensures (asks (falsified_by c.args.start)) c.in-Conflict.id _ _ start.0 start.1 c.get.ensures.value
    c.mark_all.ensures.covered
