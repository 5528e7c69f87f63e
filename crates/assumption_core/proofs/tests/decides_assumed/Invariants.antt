use Rattle.std.proofs.Common.{◌≡◌, ◌<◌, ℕ, true}
use Rattle.sat_terms.specs.Literal.{has}
use Rattle.trail_state.specs.declared.reason.Reason.TheVariants.{Decision}
use Rattle.trail_state.specs.Trail.{step}
use Rattle.assumption_core.proofs.tests.decides_assumed.Given as goal

abbrev pub invariant-loop-place : goal.invariant-loop-place
invariant-loop-place l = (i : ℕ) → i < l.place → (step l.trail.steps i).reason ≡ Decision → has l.assumptions (step l.trail.steps i).lit ≡ true
