use Rattle.std.proofs.Common.{arith}
use Rattle.flag_set.proofs.Placing.{few_members}
use Rattle.user_propagator.proofs.notices.make_room.Goals as goal

pub overflow_sub-at : goal.overflow_sub-at
overflow_sub-at c = let few = few_members _ _ _ _ c.requires in omega arith
