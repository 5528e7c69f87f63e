-- Nothing was told.
use Rattle.theory_bridge.specs.Shown.{facing}
use Rattle.theory_bridge.specs.Standing.{IsFresh}
use Rattle.theory_bridge.proofs.tests.watch.Given as goal

abbrev pub invariant-vars : goal.invariant-vars
invariant-vars g l = let s = facing (λ b. (goal.Theory-dyn g b).meaning b.1) l.bridge in IsFresh s.means s.board
