use Rattle.std.proofs.Common.{◌≤◌, length, ◌<◌}
use Rattle.conflict_analysis.specs.Walking.{KeepsResolved}
use Rattle.conflict_analysis.proofs.scratch.Scratch.shorten.Given as goal

abbrev pub invariant-lits : goal.invariant-lits
invariant-lits l = record {
  resolved : KeepsResolved l.store l.trail l.uip l.initial.self l.self;
  wide : l.trail.declared < length l.self.seen;
  inside : l.index ≤ length l.self.lits;
}

abbrev pub decreases-lits : goal.decreases-lits
decreases-lits l = l.index
