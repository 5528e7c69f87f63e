use Rattle.std.proofs.Common.{length, ◌-◌}
use Rattle.conflict_analysis.proofs.scratch.Scratch.open_from.Given as goal

abbrev pub decreases-loop-next : goal.decreases-loop-next
decreases-loop-next l = length l.reason - l.next
