use Rattle.std.proofs.Common.{◌∙◌, refl}
use Rattle.user_propagator.proofs.Phasing.{phase_set}
use Rattle.user_propagator.proofs.phases.set.Goals as goal

pub returns-clause-phases : goal.returns-clause-phases
returns-clause-phases c v =
    rw (phase_set c.grow.new.phases.items c.index-at.result c.args.lit v c.is_positive.result (c.index-at.ensures.value ∙ c.var.ensures.value) c.is_positive.ensures c.grow.ensures.long, c.grow.ensures.same v) refl
