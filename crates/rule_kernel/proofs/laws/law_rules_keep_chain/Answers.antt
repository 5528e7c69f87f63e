use Rattle.rule_kernel.proofs.Chained.{rules_keep}
use Rattle.rule_kernel.proofs.laws.law_rules_keep_chain.Goals as goal

pub returns : goal.returns
returns c = rules_keep
