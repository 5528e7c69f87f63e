use Rattle.std.proofs.Common.{◌≡◌, ◌≤◌, take}
use Rattle.rule_kernel.specs.Changes.{HasRoom}
use Rattle.rule_kernel.proofs.changes.Changes.reach.Given as goal

abbrev pub invariant-loop-lit : goal.invariant-loop-lit
invariant-loop-lit l = record {
  vars : l.self.vars ≡ l.initial.self.vars;
  lits : l.self.lits ≡ l.initial.self.lits;
  more : l.initial.self.room ≤ l.self.room;
  room : HasRoom l.self.room (take l.lit-index l.lits);
}
