use Rattle.redundancy.proofs.Chains.{extend-newest}
use Rattle.rule_kernel.proofs.laws.law_newest_acts_first.Goals as goal

pub returns : goal.returns
returns c = λ s e f. extend-newest f s e
