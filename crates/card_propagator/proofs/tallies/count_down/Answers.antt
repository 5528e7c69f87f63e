use Rattle.std.proofs.Common.{◌<◌, length, arith}
use Rattle.std.proofs.lemmas.List.{length-set}
use Rattle.card_propagator.proofs.Tallying.{item_at, down_room, down_more}
use Rattle.card_propagator.proofs.tallies.count_down.Goals as goal

pub drop_one-requires : goal.drop_one-requires
drop_one-requires c = rw (item_at _ _ _ c.loop-i-test.true c.index-ids-i.is) (down_room _ _ _ _ c.loop-i-test.true c.loop-i.invariant.less c.requires)

pub loop-i-preserved : goal.loop-i-preserved
loop-i-preserved c = record {
  size = rw (c.drop_one.ensures, length-set) c.loop-i.invariant.size;
  less = rw (c.drop_one.ensures, item_at _ _ _ c.loop-i-test.true c.index-ids-i.is) (down_more _ _ _ _ c.loop-i-test.true (down_room _ _ _ _ c.loop-i-test.true c.loop-i.invariant.less c.requires) c.loop-i.invariant.less);
}
