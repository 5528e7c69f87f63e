use Rattle.clause_store.proofs.FirmCounts.{lists_count}
use Rattle.clause_store.proofs.laws.law_lists_count.Goals as goal

pub returns : goal.returns
returns c = lists_count
