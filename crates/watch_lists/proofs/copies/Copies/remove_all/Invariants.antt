use Rattle.std.proofs.Common.{◌≤◌, ◌-◌, length, take}
use Rattle.watch_lists.specs.Copying.{IsEmptied}
use Rattle.watch_lists.proofs.copies.Copies.remove_all.Given as goal

abbrev pub invariant-each : goal.invariant-each
invariant-each l = record {
  within : l.k ≤ length l.ids;
  emptied : IsEmptied (take l.k l.ids) l.initial.self l.self;
}

abbrev pub decreases-each : goal.decreases-each
decreases-each l = length l.ids - l.k
