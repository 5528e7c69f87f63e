use Rattle.clause_store.proofs.FirmCounts.{removing_counts}
use Rattle.clause_store.proofs.laws.law_removing_counts.Goals as goal

pub returns : goal.returns
returns c = removing_counts
