use Rattle.std.proofs.Common.{◌≡◌, ◌≢◌, ℕ, true, take}
use Rattle.sat_terms.specs.Literal.{has}
use Rattle.trail_state.specs.Trail.{step}
use Rattle.rooted_trails.specs.Marks.{Covered}
use Rattle.conflict_analysis.specs.Walking.{marks_on}
use Rattle.conflict_analysis.proofs.scratch.Scratch.covers.Given as goal

abbrev pub invariant-loop-lit : goal.invariant-loop-lit
invariant-loop-lit l = (k : ℕ) → has (take l.lit-index l.reason) k ≡ true → k ≢ (step l.trail.steps l.place).lit → Covered l.trail.steps (marks_on l.self.seen l.trail.steps) l.place k
