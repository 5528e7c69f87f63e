use Rattle.redundancy.proofs.Chains.{Chain-extend}
use Rattle.clause_store.specs.Stored.{FirmTrue}
use Rattle.rule_kernel.proofs.laws.law_chain_extends.Goals as goal

pub returns : goal.returns
returns c = λ s f chain firm. Chain-extend (FirmTrue s.store) f s.stack chain firm
