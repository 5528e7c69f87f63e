use Rattle.std.proofs.Common.{◌≡◌, ◌≢◌, ℕ, true, take}
use Rattle.sat_terms.specs.Literal.{has, neg}
use Rattle.trail_state.specs.Trail.{true_on}
use Rattle.rooted_scenes.proofs.scene.is_unit.Given as goal

abbrev pub invariant-loop-lit : goal.invariant-loop-lit
invariant-loop-lit l = (k : ℕ) → has (take l.lit-index l.clause) k ≡ true → k ≢ l.left → true_on l.trail.steps (neg k) ≡ true
