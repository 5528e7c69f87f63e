use Rattle.lazy_reasons.proofs.Rows.{asked_nothing}
use Rattle.assumption_core.proofs.Walking.{core_found}
use Rattle.assumption_core.proofs.cores.core_of.Goals as goal

pub returns-in_err-needs-clause-asked : goal.returns-in_err-needs-clause-asked
returns-in_err-needs-clause-asked g c = asked_nothing _ _

pub returns-clause-core : goal.returns-clause-core
returns-clause-core g c =
    let b = c.in_ok-trace_back.ensures in
    core_found _ _ _ _ _ _ _ _ _ _ _ c.requires.ready b.ready b.marked c.start.ensures.falsified b.falsified c.start.ensures.blocked b.blocked c.requires.decisions c.requires.start c.in_ok-core.ensures
