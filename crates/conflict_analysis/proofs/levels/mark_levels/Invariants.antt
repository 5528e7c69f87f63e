use Rattle.std.proofs.Common.{◌≡◌, length, take}
use Rattle.conflict_analysis.proofs.Glues.{Gluing}
use Rattle.conflict_analysis.proofs.levels.mark_levels.Given as goal

abbrev pub invariant-loop-lit : goal.invariant-loop-lit
invariant-loop-lit l = record {
  gluing : Gluing l.trail.steps l.trail.level l.levels.items l.glue (take l.lit-index l.lits);
  long : length l.levels.items ≡ length l.initial.levels.items;
}
