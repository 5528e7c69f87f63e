use Rattle.std.proofs.Common.{◌-◌, length}
use Rattle.watch_lists.specs.Propagation.{ids_of}
use Rattle.watch_lists.specs.Watching.{pairs, AllCopied, CopiesKeep}
use Rattle.watch_lists.proofs.Turns.{Visiting}
use Rattle.watch_lists.proofs.visits.visit.Given as goal

abbrev pub invariant-each : goal.invariant-each
invariant-each l = record {
  visiting : Visiting (ids_of l.attached) l.store (length l.initial.lists) l.f l.ws.items l.lists (pairs l.initial.copies) (pairs l.copies) l.initial.trail l.trail l.i l.j;
  copied : AllCopied l.store l.copies;
  keeps : CopiesKeep l.initial.copies l.copies;
}

abbrev pub decreases-each : goal.decreases-each
decreases-each l = length l.ws.items - l.i
