-- What is observed before the place was told.
use Rattle.theory_bridge.specs.Shown.{facing}
use Rattle.theory_bridge.proofs.Walking.{IsWalking}
use Rattle.theory_bridge.proofs.bridge.Bridge.tell_literals.Given as goal

abbrev pub invariant-walk : goal.invariant-walk
invariant-walk g l = IsWalking l.trail l.place (facing (λ b. (goal.Theory-dyn g b).meaning b.1) l.fn.self) (facing (λ b. (goal.Theory-dyn g b).meaning b.1) l.self)
