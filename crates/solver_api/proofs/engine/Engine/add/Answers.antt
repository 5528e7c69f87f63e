use Rattle.solver_api.proofs.EngineLemmas.{takes_sorted, takes_opposites}
use Rattle.solver_api.proofs.engine.Engine.add.Goals as goal

pub returns-in_ok-add-2-clause-takes : goal.returns-in_ok-add-2-clause-takes
returns-in_ok-add-2-clause-takes c =
    let form = c.as_slice-then-not-tautology.result.now in
    let normal = rw (c.as_slice.ensures.value, ← c.as_slice-then-not-tautology.ensures.value) at (c.has_opposites-tautology.ensures.none c.if-not-tautology.true) in
    rw (← c.self.view_is)
    (takes_sorted _ _ c.in_ok-add-2.field-0 c.args.lits.now _ _ _ form c.clear.ensures.items c.in_ok-extend_from_slice.ensures.items c.sort_and_dedup.ensures.same c.as_slice-then-not-tautology.ensures.value normal c.in_ok-add-2.ensures.ok)

pub returns-else-not-tautology-clause-takes : goal.returns-else-not-tautology-clause-takes
returns-else-not-tautology-clause-takes c =
    let opposites = c.has_opposites-tautology.ensures.some c.if-not-tautology.false in
    rw (← c.self.view_is)
    (takes_opposites _ c.args.lits.now _ _ _ c.as_slice.result.now c.clear.ensures.items c.in_ok-extend_from_slice.ensures.items c.sort_and_dedup.ensures.same c.as_slice.ensures.value opposites)
