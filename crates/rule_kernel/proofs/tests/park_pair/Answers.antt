use Rattle.std.proofs.Common.{refl, arith}
use Rattle.sat_terms.specs.Literal.{var_of}
use Rattle.clause_store.proofs.Normals.{normal_two}
use Rattle.rule_kernel.proofs.Examples.{witnesses_alone, within_push}
use Rattle.rule_kernel.proofs.tests.park_pair.Goals as goal

pub add-requires-clause-normal : goal.add-requires-clause-normal
unfolding var_of
add-requires-clause-normal c = normal_two _ _ (omega arith) (λ e. omega arith)

pub park-requires-clause-witnessed : goal.park-requires-clause-witnessed
park-requires-clause-witnessed c = witnesses_alone _ _ _ _ _ c.requires.empty c.in_ok-id.ensures.ok.store (omega arith) refl

pub returns-clause-within : goal.returns-clause-within
returns-clause-within c =
    rw (c.in_ok-park.ensures.ok.stack, c.in_ok-id.ensures.ok.rest.stack)
    (within_push 4 c.args.low _ _ c.requires.within (omega arith) (omega arith))
