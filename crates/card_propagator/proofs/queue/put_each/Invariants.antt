use Rattle.std.proofs.Common.{◌≡◌, ℕ, ◌||◌, take}
use Rattle.sat_terms.specs.Literal.{has}
use Rattle.card_propagator.proofs.queue.put_each.Given as goal

abbrev pub invariant-loop-id : goal.invariant-loop-id
invariant-loop-id l = record {
  members : (k : ℕ) → has l.queue.members k ≡ (has l.initial.queue.members k || has (take l.id-index l.ids) k);
  room : l.queue.room ≡ l.initial.queue.room;
}
