use Rattle.std.proofs.Common.{◌≡◌, length}
use Rattle.trail_state.specs.Trail.{Trace}
use Rattle.watch_lists.specs.Propagation.{Follows}
use Rattle.search_engine.specs.Searching.{IsListing}
use Rattle.search_engine.proofs.ready.attach_listed.Given as goal

abbrev pub invariant-loop-listed : goal.invariant-loop-listed
invariant-loop-listed l = record {
  listing : IsListing l.watches.attached l.listed.items l.store;
  declared : l.watches.declared ≡ l.fn.watches.declared;
  following : (t : Trace) → Follows l.fn.watches l.store t → Follows l.watches l.store t;
}

abbrev pub decreases-loop-listed : goal.decreases-loop-listed
decreases-loop-listed l = length l.listed.items
