use Rattle.std.proofs.Common.{◌∙◌}
use Rattle.watch_lists.proofs.Pieces.{laid_longer, counted_longer, copy_longer}
use Rattle.watch_lists.proofs.copies.Copies.reach.Goals as goal

pub loop-self-preserved : goal.loop-self-preserved
loop-self-preserved c = rw c.in_ok-push.ensures.items (record {
  laid = laid_longer c.loop-self.self-inside.words.items c.loop-self.self-inside.places.items c.loop-self.invariant.laid;
  counted = counted_longer c.loop-self.self-inside.words.items c.loop-self.self-inside.places.items c.loop-self.self-inside.dead c.loop-self.invariant.counted;
  same = λ k. copy_longer c.loop-self.self-inside.words.items c.loop-self.self-inside.places.items k ∙ c.loop-self.invariant.same k;
})
