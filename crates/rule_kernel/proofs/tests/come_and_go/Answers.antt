use Rattle.std.proofs.Common.{arith}
use Rattle.sat_terms.specs.Literal.{var_of}
use Rattle.clause_store.proofs.Normals.{normal_two}
use Rattle.rule_kernel.proofs.tests.come_and_go.Goals as goal

pub add_implied-requires-clause-normal : goal.add_implied-requires-clause-normal
unfolding var_of
add_implied-requires-clause-normal c = normal_two _ _ (omega arith) (λ e. omega arith)
