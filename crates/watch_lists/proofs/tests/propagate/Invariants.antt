use Rattle.std.proofs.Common.{◌-◌, length}
use Rattle.watch_lists.specs.Worlds.{IsSound}
use Rattle.watch_lists.proofs.tests.propagate.Given as goal

abbrev pub invariant-each : goal.invariant-each
invariant-each l = IsSound l.world.watches l.world.store l.world.trail

abbrev pub decreases-each : goal.decreases-each
decreases-each l = length l.numbers - l.k
