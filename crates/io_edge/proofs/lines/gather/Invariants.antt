use Rattle.std.proofs.Common.{length, ◌≡◌, ◌≤◌, ◌+◌, ◌-◌, []}
use Rattle.std.specs.Prelude.{Contains}
use Rattle.io_edge.specs.Reading.{Takes}
use Rattle.io_edge.proofs.lines.gather.Given as goal

abbrev pub invariant-loop-found : goal.invariant-loop-found
invariant-loop-found g l =
    let left = g.S.Source.left in
    let faults = g.S.Source.faults in
    record {
      so_far : Takes (left l.fn.source) (left l.source) l.fn.ahead l.ahead l.line.items [];
      short : length l.line.items ≤ 16777216;
      kept : faults l.source ≡ faults l.fn.source;
      unread : Contains l.fn.ahead 10 → l.source ≡ l.fn.source;
    }

abbrev pub decreases-loop-found : goal.decreases-loop-found
decreases-loop-found g l = 16842753 - (length l.line.items + length l.ahead)
