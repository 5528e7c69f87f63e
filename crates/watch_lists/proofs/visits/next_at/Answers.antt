use Rattle.std.proofs.Common.{arith}
use Rattle.sat_terms.proofs.Members.{has_at}
use Rattle.watch_lists.proofs.Looks.{next_found, none_more}
use Rattle.watch_lists.proofs.visits.next_at.Goals as goal

pub may_watch-found-requires : goal.may_watch-found-requires
may_watch-found-requires c = c.requires c.index-clause-k.result (has_at c.args.clause.now c.loop-k.k c.index-clause-k.result c.loop-k-test.true c.index-clause-k.is)

pub returns-then-found : goal.returns-then-found
returns-then-found c = next_found _ _ c.loop-k.k c.index-clause-k.result c.may_watch-found.result c.loop-k.invariant.late c.loop-k-test.true c.index-clause-k.is c.may_watch-found.ensures c.if-found.true

pub loop-k-preserved : goal.loop-k-preserved
loop-k-preserved c = record {
  late = let a = c.loop-k.invariant.late in omega arith;
  none = none_more _ _ c.loop-k.k c.index-clause-k.result c.may_watch-found.result c.loop-k-test.true c.index-clause-k.is c.may_watch-found.ensures c.if-found.false c.loop-k.invariant.none;
}
