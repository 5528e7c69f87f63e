use Rattle.lazy_reasons.proofs.Idling.{idle_ready}
use Rattle.search_engine.proofs.clausal.core_clausal.Goals as goal

pub core_of-requires-clause-ready : goal.core_of-requires-clause-ready
core_of-requires-clause-ready g c = idle_ready _ _ _ c.requires.idle c.requires.rooted
