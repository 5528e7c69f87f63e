use Rattle.card_propagator.specs.Values.{value, is_false}
use Rattle.card_propagator.proofs.Placed.{pushed}
use Rattle.card_propagator.proofs.clauses.false_literals.Goals as goal

pub loop-lit-preserved : goal.loop-lit-preserved
loop-lit-preserved c = pushed (λ x. is_false (value c.args.counter.now.table x)) _ _ _ _ _ c.loop-lit-test.true c.lit-item.is c.loop-lit.invariant c.in_ok-add_false.ensures
