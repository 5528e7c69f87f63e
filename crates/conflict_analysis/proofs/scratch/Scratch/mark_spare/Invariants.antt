use Rattle.std.proofs.Common.{◌≡◌, length, ◌<◌}
use Rattle.conflict_analysis.specs.Walking.{KeepsResolved}
use Rattle.conflict_analysis.proofs.scratch.Scratch.mark_spare.Given as goal

abbrev pub invariant-loop-index : goal.invariant-loop-index
invariant-loop-index l = record {
  resolved : KeepsResolved l.store l.trail l.uip l.initial.self l.self;
  wide : l.trail.declared < length l.self.seen;
  lits : l.self.lits ≡ l.initial.self.lits;
}
