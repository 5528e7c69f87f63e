use Rattle.std.proofs.Common.{◌-◌, length}
use Rattle.watch_lists.proofs.Pieces.{Compacted}
use Rattle.watch_lists.proofs.copies.Copies.compact.Given as goal

abbrev pub invariant-each : goal.invariant-each
invariant-each l = Compacted l.self-inside.words.items l.self-inside.places.items l.words.items l.places.items l.id

abbrev pub decreases-each : goal.decreases-each
decreases-each l = length l.self-inside.places.items - l.id
