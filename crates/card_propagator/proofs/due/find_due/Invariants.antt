use Rattle.std.proofs.Common.{ℕ, length}
use Rattle.card_propagator.specs.Counting.{AreSettled, ArePassed}
use Rattle.card_propagator.proofs.due.find_due.Given as goal

abbrev pub invariant-loop-id : goal.invariant-loop-id
invariant-loop-id l = record {
  settled : AreSettled l.rules l.table l.queue;
  passed : ArePassed l.rules l.table l.starts.items;
}

abbrev pub decreases-loop-id : goal.decreases-loop-id
decreases-loop-id l = length l.queue.members
