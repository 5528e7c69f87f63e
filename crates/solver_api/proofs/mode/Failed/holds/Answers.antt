use Rattle.std.proofs.Common.{◌∙◌}
use Rattle.solver_api.proofs.Lists.{found_by_halves}
use Rattle.solver_api.proofs.mode.Failed.holds.Goals as goal

pub returns : goal.returns
returns c =
    rw (← c.self.view_is)
    (c.is_ok.ensures.value ∙ found_by_halves c.self.inside.lits c.self.inside.sorted.items c.args.lit c.binary_search.result c.self.invariant (rw c.as_slice.ensures.value at c.binary_search.ensures.position))
