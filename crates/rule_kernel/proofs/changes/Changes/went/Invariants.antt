use Rattle.std.proofs.Common.{◌≡◌, take}
use Rattle.rule_kernel.specs.Changes.{marked, MarksWent}
use Rattle.rule_kernel.proofs.changes.Changes.went.Given as goal

abbrev pub invariant-loop-lit : goal.invariant-loop-lit
invariant-loop-lit l = record {
  marks : MarksWent (marked l.initial.self) (marked l.self) (take l.lit-index l.lits);
  room : l.self.room ≡ l.initial.self.room;
}
