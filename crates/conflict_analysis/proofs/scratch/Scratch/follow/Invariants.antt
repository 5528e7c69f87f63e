use Rattle.std.proofs.Common.{◌≡◌, length, ◌<◌}
use Rattle.conflict_analysis.specs.Walking.{KeepsResolved}
use Rattle.conflict_analysis.proofs.scratch.Scratch.follow.Given as goal

abbrev pub invariant-loop : goal.invariant-loop
invariant-loop l = record {
  resolved : KeepsResolved l.store l.trail l.uip l.initial.self l.self;
  wide : l.trail.declared < length l.self.seen;
  lits : l.self.lits ≡ l.initial.self.lits;
}
