use Rattle.std.proofs.Common.{arith}
use Rattle.clause_store.proofs.Normals.{normal_rising}
use Rattle.clause_store.proofs.tests.rises.Goals as goal

pub returns : goal.returns
returns c t = normal_rising c.args.lits.now (λ k lt. c.loop-i.invariant k (omega arith))
