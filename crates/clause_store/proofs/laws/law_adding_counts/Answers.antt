use Rattle.clause_store.proofs.FirmCounts.{adding_counts}
use Rattle.clause_store.proofs.laws.law_adding_counts.Goals as goal

pub returns : goal.returns
returns c = adding_counts
