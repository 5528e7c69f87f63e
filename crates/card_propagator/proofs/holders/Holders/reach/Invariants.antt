use Rattle.std.proofs.Common.{◌≡◌, ℕ, ◌+◌, ◌-◌}
use Rattle.clause_store.specs.Lists.{occ_at}
use Rattle.card_propagator.proofs.holders.Holders.reach.Given as goal

abbrev pub invariant-loop-self : goal.invariant-loop-self
invariant-loop-self l = (lit : ℕ) → occ_at l.self-inside.lists.items lit ≡ occ_at l.initial.self-inside.lists.items lit

abbrev pub decreases-loop-self : goal.decreases-loop-self
decreases-loop-self l = (l.code + 1) - l.self-inside.lists.len
