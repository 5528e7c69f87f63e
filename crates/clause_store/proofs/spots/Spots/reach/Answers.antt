use Rattle.std.proofs.Common.{◌∙◌}
use Rattle.clause_store.proofs.Pieces.{laid_longer, cells_longer}
use Rattle.clause_store.proofs.spots.Spots.reach.Goals as goal

pub loop-self-preserved : goal.loop-self-preserved
loop-self-preserved c = rw c.in_ok-push.ensures.items (record {
  laid = laid_longer c.loop-self.self-inside.cells.items c.loop-self.self-inside.pieces.items c.loop-self.invariant.laid;
  same = λ k. cells_longer c.loop-self.self-inside.cells.items c.loop-self.self-inside.pieces.items k ∙ c.loop-self.invariant.same k;
})
