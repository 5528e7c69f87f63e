use Rattle.std.proofs.Common.{◌≡◌, ℕ, take}
use Rattle.std.specs.List.{filter}
use Rattle.card_propagator.specs.Values.{value, is_false}
use Rattle.card_propagator.proofs.clauses.false_literals.Given as goal

abbrev pub invariant-loop-lit : goal.invariant-loop-lit
invariant-loop-lit l = l.clause ≡ filter (λ x. is_false (value l.counter.table x)) (take l.lit-index l.lits)
