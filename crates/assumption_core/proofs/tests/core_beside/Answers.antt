use Rattle.lazy_reasons.proofs.Idling.{idle_ready}
use Rattle.assumption_core.proofs.tests.core_beside.Goals as goal

pub core_of-requires-clause-ready : goal.core_of-requires-clause-ready
core_of-requires-clause-ready g c = idle_ready _ _ _ c.requires.idle c.requires.rooted
