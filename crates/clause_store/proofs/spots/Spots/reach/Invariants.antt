use Rattle.std.proofs.Common.{◌≡◌, ℕ, ◌+◌, ◌-◌}
use Rattle.clause_store.specs.Pieces.{pieces_of, IsLaid}
use Rattle.clause_store.specs.Spots.{spots_of}
use Rattle.clause_store.proofs.spots.Spots.reach.Given as goal

abbrev pub invariant-loop-self : goal.invariant-loop-self
invariant-loop-self l = record {
  laid : IsLaid l.self-inside.cells.items l.self-inside.pieces.items;
  same : (k : ℕ) → spots_of (pieces_of l.self-inside.cells.items l.self-inside.pieces.items) k ≡ spots_of (pieces_of l.initial.self-inside.cells.items l.initial.self-inside.pieces.items) k;
}

abbrev pub decreases-loop-self : goal.decreases-loop-self
decreases-loop-self l = (l.id + 1) - l.self-inside.pieces.len
