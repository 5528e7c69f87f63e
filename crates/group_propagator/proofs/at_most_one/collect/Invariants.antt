use Rattle.std.proofs.Common.{◌≡◌, ℕ, take}
use Rattle.sat_terms.specs.Literal.{has}
use Rattle.group_propagator.proofs.at_most_one.collect.Given as goal

abbrev pub invariant-loop-var : goal.invariant-loop-var
invariant-loop-var l = (v : ℕ) → has l.list.members v ≡ has (take l.var-index l.group) v
