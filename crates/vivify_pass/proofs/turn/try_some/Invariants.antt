use Rattle.vivify_pass.proofs.Circling.{Trying}
use Rattle.vivify_pass.proofs.turn.try_some.Given as goal

abbrev pub invariant-loop-place : goal.invariant-loop-place
invariant-loop-place l = Trying l.fn.kernel l.kernel l.watches l.trail l.ids l.place l.fn.steps l.steps l.limit
