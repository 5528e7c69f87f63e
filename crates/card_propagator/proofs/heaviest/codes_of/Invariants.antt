use Rattle.std.proofs.Common.{◌≡◌, ℕ, take}
use Rattle.card_propagator.proofs.heaviest.codes_of.Given as goal

abbrev pub invariant-loop-lit : goal.invariant-loop-lit
invariant-loop-lit l = l.codes.items ≡ take l.lit-index l.lits
