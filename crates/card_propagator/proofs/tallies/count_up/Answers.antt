use Rattle.std.proofs.Common.{◌<◌, length, arith}
use Rattle.std.proofs.lemmas.List.{length-set}
use Rattle.card_propagator.proofs.Tallying.{item_at, up_within, up_room, up_more}
use Rattle.card_propagator.proofs.tallies.count_up.Goals as goal

pub bump-requires-clause-within : goal.bump-requires-clause-within
bump-requires-clause-within c = rw (item_at _ _ _ c.loop-i-test.true c.index-ids-i.is) (up_within _ _ _ c.loop-i-test.true (rw c.loop-i.invariant.size c.requires.within))

pub bump-requires-clause-room : goal.bump-requires-clause-room
bump-requires-clause-room c = rw (item_at _ _ _ c.loop-i-test.true c.index-ids-i.is) (up_room _ _ _ _ c.loop-i-test.true c.loop-i.invariant.more c.requires.room)

pub loop-i-preserved : goal.loop-i-preserved
loop-i-preserved c = record {
  size = rw (c.bump.ensures, length-set) c.loop-i.invariant.size;
  more = rw (c.bump.ensures, item_at _ _ _ c.loop-i-test.true c.index-ids-i.is) (up_more _ _ _ _ c.loop-i-test.true (up_within _ _ _ c.loop-i-test.true (rw c.loop-i.invariant.size c.requires.within)) c.loop-i.invariant.more);
}
