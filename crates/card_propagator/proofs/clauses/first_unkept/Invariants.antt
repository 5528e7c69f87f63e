use Rattle.std.proofs.Common.{◌≡◌, ℕ, take, true}
use Rattle.sat_terms.specs.Truth.{values}
use Rattle.card_propagator.specs.Cards.{are_kept}
use Rattle.card_propagator.proofs.clauses.first_unkept.Given as goal

abbrev pub invariant-loop-k : goal.invariant-loop-k
invariant-loop-k l = are_kept (values l.model) (take l.k l.counter.rules) ≡ true
