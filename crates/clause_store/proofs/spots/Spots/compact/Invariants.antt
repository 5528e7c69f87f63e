use Rattle.std.proofs.Common.{◌≡◌, ◌-◌, length, take}
use Rattle.clause_store.specs.Pieces.{pieces_of, cell_count, IsLaid}
use Rattle.clause_store.proofs.spots.Spots.compact.Given as goal

abbrev pub invariant-each : goal.invariant-each
invariant-each l = record {
  copied : pieces_of l.cells.items l.pieces.items ≡ take l.id (pieces_of l.self-inside.cells.items l.self-inside.pieces.items);
  laid : IsLaid l.cells.items l.pieces.items;
  close : length l.cells.items ≡ cell_count (take l.id (pieces_of l.self-inside.cells.items l.self-inside.pieces.items));
}

abbrev pub decreases-each : goal.decreases-each
decreases-each l = length l.self-inside.pieces.items - l.id
