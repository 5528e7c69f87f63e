use Rattle.std.proofs.Common.{◌≡◌, ◌-◌, length, take}
use Rattle.clause_store.specs.Placing.{slots, AllWithin, literal_count}
use Rattle.clause_store.proofs.arena.Arena.compact.Given as goal

abbrev pub invariant-each : goal.invariant-each
invariant-each l = record {
  copied : slots l.words.items l.places.items ≡ take l.id (slots l.self-inside.words.items l.self-inside.places.items);
  within : AllWithin l.words.items l.places.items;
  close : length l.words.items ≡ literal_count (take l.id (slots l.self-inside.words.items l.self-inside.places.items));
}

abbrev pub decreases-each : goal.decreases-each
decreases-each l = length l.self-inside.places.items - l.id
