use Rattle.std.proofs.Common.{◌≡◌, ℕ, ◌||◌, take}
use Rattle.sat_terms.specs.Literal.{has}
use Rattle.rule_kernel.proofs.waiting.put_each.Given as goal

abbrev pub invariant-loop-id : goal.invariant-loop-id
invariant-loop-id l = record {
  members : (k : ℕ) → has l.list.members k ≡ (has l.fn.list.members k || has (take l.id-index l.ids) k);
  room : l.list.room ≡ l.fn.list.room;
}
