use Rattle.std.proofs.Common.{◌≡◌, ◌++◌, ℕ, take}
use Rattle.card_propagator.specs.Cards.{fallen}
use Rattle.card_propagator.proofs.clauses.add_fallen.Given as goal

abbrev pub invariant-loop-lit : goal.invariant-loop-lit
invariant-loop-lit l = l.out ≡ l.initial.out ++ fallen (take l.place l.desk.seen) (take l.lit-index l.lits)
