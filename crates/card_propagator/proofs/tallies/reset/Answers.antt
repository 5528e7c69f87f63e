use Rattle.std.proofs.Common.{◌<◌, length, arith}
use Rattle.std.proofs.lemmas.List.{length-set}
use Rattle.card_propagator.proofs.Tallying.{item_at, up_within, reset_more}
use Rattle.card_propagator.proofs.tallies.reset.Goals as goal

pub clear-requires : goal.clear-requires
clear-requires c = rw (item_at _ _ _ c.loop-i-test.true c.index-ids-i.is) (up_within _ _ _ c.loop-i-test.true (rw c.loop-i.invariant.size c.requires))

pub loop-i-preserved : goal.loop-i-preserved
loop-i-preserved c = record {
  size = rw (c.clear.ensures, length-set) c.loop-i.invariant.size;
  cleared = rw (c.clear.ensures, item_at _ _ _ c.loop-i-test.true c.index-ids-i.is) (reset_more _ _ _ _ c.loop-i-test.true (up_within _ _ _ c.loop-i-test.true (rw c.loop-i.invariant.size c.requires)) c.loop-i.invariant.cleared);
}
