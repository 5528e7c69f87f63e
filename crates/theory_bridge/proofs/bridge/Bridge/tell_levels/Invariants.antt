-- Levels alone were told so far.
use Rattle.std.proofs.Common.{◌-◌}
use Rattle.theory_bridge.specs.Shown.{facing}
use Rattle.theory_bridge.proofs.Walking.{IsRaising}
use Rattle.theory_bridge.proofs.bridge.Bridge.tell_levels.Given as goal

abbrev pub invariant-levels : goal.invariant-levels
invariant-levels g l = IsRaising l.trail l.level (facing (λ b. (goal.Theory-dyn g b).meaning b.1) l.fn.self) (facing (λ b. (goal.Theory-dyn g b).meaning b.1) l.self)

abbrev pub decreases-levels : goal.decreases-levels
decreases-levels g l = l.level - l.self.desk.level
