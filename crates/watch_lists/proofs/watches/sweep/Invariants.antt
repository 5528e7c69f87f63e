use Rattle.std.proofs.Common.{◌≡◌, ◌≤◌, ◌-◌, ℕ, length}
use Rattle.watch_lists.proofs.Sweeping.{Sweeping}
use Rattle.watch_lists.proofs.watches.sweep.Given as goal

abbrev pub invariant-each : goal.invariant-each
invariant-each l = Sweeping l.attached l.initial.lists.items l.lists.items l.l

abbrev pub decreases-each : goal.decreases-each
decreases-each l = length l.lists.items - l.l
