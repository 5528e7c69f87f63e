use Rattle.search_policy.proofs.Reductions.{named_once, named_forgettable}
use Rattle.search_policy.proofs.policy.Policy.law_forgets_little.Goals as goal

pub returns-clause-each : goal.returns-clause-each
returns-clause-each c = named_forgettable

pub returns-clause-once : goal.returns-clause-once
returns-clause-once c = named_once
