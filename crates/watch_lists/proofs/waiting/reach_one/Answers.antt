use Rattle.std.proofs.Common.{◌∙◌, [], arith}
use Rattle.std.proofs.lemmas.List.{length_push}
use Rattle.watch_lists.proofs.Rooms.{at_longer}
use Rattle.watch_lists.proofs.waiting.reach_one.Goals as goal

pub loop-alloc-preserved : goal.loop-alloc-preserved
loop-alloc-preserved c = rw (c.in_ok-push.ensures.items, c.new.ensures) (record {
  longer = let e = length_push c.loop-alloc.lists.items [] in let h = c.loop-alloc.invariant.longer in omega arith;
  same = λ k. at_longer c.loop-alloc.lists.items k ∙ c.loop-alloc.invariant.same k;
})
