use Rattle.std.proofs.Common.{arith}
use Rattle.flag_set.proofs.Placing.{few_members}
use Rattle.flag_set.proofs.work.WorkList.reach.Goals as goal

pub overflow_sub-at : goal.overflow_sub-at
overflow_sub-at g c = let few = few_members _ _ _ _ c.self.invariant in omega arith
