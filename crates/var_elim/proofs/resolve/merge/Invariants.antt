use Rattle.std.proofs.Common.{◌≤◌, ◌+◌, ◌-◌, length}
use Rattle.var_elim.specs.Merging.{Merged}
use Rattle.var_elim.proofs.resolve.merge.Given as goal

abbrev pub invariant-loop-at : goal.invariant-loop-at
invariant-loop-at l = (l.at ≤ length l.left) × (l.to ≤ length l.right) × Merged l.lit l.left l.right l.at l.to l.form.items

abbrev pub decreases-loop-at : goal.decreases-loop-at
decreases-loop-at l = (length l.left + length l.right) - (l.at + l.to)
