use Rattle.std.proofs.Common.{◌≤◌, ◌-◌, length}
use Rattle.watch_lists.specs.Propagation.{ids_of, Grown, AllFixed}
use Rattle.watch_lists.specs.Shorts.{AllMet}
use Rattle.watch_lists.proofs.shorts.pass_short.Given as goal

abbrev pub invariant-each : goal.invariant-each
invariant-each l = record {
  grown : Grown (ids_of l.attached) l.store l.initial.trail l.trail;
  fixed : AllFixed l.store l.short l.fixed l.trail.steps;
  met : AllMet l.store l.short l.k l.trail.steps;
  order : l.fixed ≤ l.k;
}

abbrev pub decreases-each : goal.decreases-each
decreases-each l = length l.short - l.k
