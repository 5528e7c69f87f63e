use Rattle.std.proofs.Common.{◌≡◌, length}
use Rattle.watch_lists.specs.Propagation.{Follows}
use Rattle.watch_lists.proofs.watches.Watches.place_all.Given as goal

abbrev pub invariant-loop-self : goal.invariant-loop-self
invariant-loop-self l = record {
  attached : l.self.attached ≡ l.fn.self.attached;
  declared : l.self.declared ≡ l.fn.self.declared;
  follows : Follows l.self l.store l.trail;
}

abbrev pub decreases-loop-self : goal.decreases-loop-self
decreases-loop-self l = length l.self.waiting
