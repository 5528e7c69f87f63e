use Rattle.std.proofs.Common.{rules}
use Rattle.watch_lists.proofs.Testing.{normal_rising}
use Rattle.watch_lists.proofs.tests.are_rising.Goals as goal

pub returns-clause-normal : goal.returns-clause-normal
returns-clause-normal c = λ h. normal_rising c.args.lits.now (λ i j d a b. c.each.invariant.rising i j d a (search rules))
