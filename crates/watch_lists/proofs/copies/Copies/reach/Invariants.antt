use Rattle.std.proofs.Common.{◌≡◌, ℕ, ◌+◌, ◌-◌}
use Rattle.watch_lists.specs.Copying.{pieces, IsLaid, IsCounted}
use Rattle.watch_lists.specs.Watching.{copy}
use Rattle.watch_lists.proofs.copies.Copies.reach.Given as goal

abbrev pub invariant-loop-self : goal.invariant-loop-self
invariant-loop-self l = record {
  laid : IsLaid l.self-inside.words.items l.self-inside.places.items;
  counted : IsCounted l.self-inside.words.items l.self-inside.places.items l.self-inside.dead;
  same : (k : ℕ) → copy (pieces l.self-inside.words.items l.self-inside.places.items) k ≡ copy (pieces l.initial.self-inside.words.items l.initial.self-inside.places.items) k;
}

abbrev pub decreases-loop-self : goal.decreases-loop-self
decreases-loop-self l = (l.id + 1) - l.self-inside.places.len
