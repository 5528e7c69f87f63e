use Rattle.clause_store.proofs.FirmCounts.{same_slots_count}
use Rattle.clause_store.proofs.laws.law_same_slots_count.Goals as goal

pub returns : goal.returns
returns c = same_slots_count
