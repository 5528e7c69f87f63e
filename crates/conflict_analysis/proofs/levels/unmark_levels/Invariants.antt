use Rattle.std.proofs.Common.{◌≡◌, ℕ, true, length, drop}
use Rattle.rooted_trails.specs.Marks.{flag}
use Rattle.conflict_analysis.specs.Learning.{has_level}
use Rattle.conflict_analysis.proofs.levels.unmark_levels.Given as goal

abbrev pub invariant-loop-lit : goal.invariant-loop-lit
invariant-loop-lit l = record {
  left : (v : ℕ) → flag l.levels.items v ≡ true → has_level l.trail.steps (drop l.lit-index l.lits) v ≡ true;
  long : length l.levels.items ≡ length l.initial.levels.items;
}
