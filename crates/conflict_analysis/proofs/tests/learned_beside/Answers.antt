use Rattle.lazy_reasons.proofs.Idling.{idle_ready}
use Rattle.conflict_analysis.proofs.tests.learned_beside.Goals as goal

pub analyze-requires-clause-ready : goal.analyze-requires-clause-ready
analyze-requires-clause-ready g c = idle_ready _ _ _ c.requires.idle c.requires.rooted
