use Rattle.std.proofs.Common.{refl, arith}
use Rattle.taint_restore.proofs.Examples.{witnesses_front}
use Rattle.restore_runs.proofs.runs.park_one.Goals as goal

pub park-requires-clause-witnessed : goal.park-requires-clause-witnessed
park-requires-clause-witnessed c =
    witnesses_front _ _ _ 1 _ _ c.requires c.in_ok-id.ensures.ok.store (c.is_normal.ensures.0 c.if-not-is_normal.false) (omega arith) (omega arith) refl
