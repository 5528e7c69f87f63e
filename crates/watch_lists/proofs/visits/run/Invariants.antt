use Rattle.std.proofs.Common.{◌-◌, length}
use Rattle.watch_lists.specs.Propagation.{ids_of}
use Rattle.watch_lists.specs.Watching.{pairs, AllCopied, CopiesKeep}
use Rattle.watch_lists.proofs.Runs.{Running}
use Rattle.watch_lists.proofs.visits.run.Given as goal

abbrev pub invariant-each : goal.invariant-each
invariant-each l = record {
  running : Running (ids_of l.attached) l.store (length l.initial.lists) l.lists (pairs l.copies) l.initial.trail l.trail l.initial.head l.place l.sure;
  copied : AllCopied l.store l.copies;
  keeps : CopiesKeep l.initial.copies l.copies;
}

abbrev pub decreases-each : goal.decreases-each
decreases-each l = l.trail.declared - l.place
