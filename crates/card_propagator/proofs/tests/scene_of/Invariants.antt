use Rattle.std.proofs.Common.{◌≡◌, []}
use Rattle.card_propagator.proofs.tests.scene_of.Given as goal

abbrev pub invariant-loop-number : goal.invariant-loop-number
invariant-loop-number l = (l.desk.seen ≡ []) × (l.desk.level ≡ 0)
