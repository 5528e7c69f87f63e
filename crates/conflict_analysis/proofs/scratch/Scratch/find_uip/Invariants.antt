use Rattle.theory_bridge.specs.Shown.{facing}
use Rattle.conflict_analysis.proofs.Turns.{IsWalking}
use Rattle.conflict_analysis.proofs.scratch.Scratch.find_uip.Given as goal

abbrev pub invariant-walk : goal.invariant-walk
invariant-walk g l =
    IsWalking l.store l.trail l.place l.self (facing (λ b. (goal.Theory-dyn g b).meaning b.1) l.fn.bridge) (facing (λ b. (goal.Theory-dyn g b).meaning b.1) l.bridge)

abbrev pub decreases-walk : goal.decreases-walk
decreases-walk g l = l.place
