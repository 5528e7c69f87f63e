use Rattle.std.proofs.Common.{◌≡◌, take}
use Rattle.rule_kernel.specs.Changes.{marked, MarksCame}
use Rattle.rule_kernel.proofs.changes.Changes.came.Given as goal

abbrev pub invariant-loop-lit : goal.invariant-loop-lit
invariant-loop-lit l = record {
  marks : MarksCame (marked l.initial.self) (marked l.self) (take l.lit-index l.lits);
  room : l.self.room ≡ l.initial.self.room;
}
