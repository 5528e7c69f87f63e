use Rattle.std.proofs.Common.{◌-◌, length}
use Rattle.rule_kernel.specs.Frozen.{is_frozen}
use Rattle.blocked_clauses.proofs.Walking.{Walking}
use Rattle.blocked_clauses.proofs.walk.walk_from.Given as goal

abbrev pub invariant-loop-place : goal.invariant-loop-place
invariant-loop-place l = Walking (is_frozen l.frozen) l.fn.kernel l.kernel l.from l.place l.fn.steps l.steps l.limit

abbrev pub decreases-loop-place : goal.decreases-loop-place
decreases-loop-place l = length l.kernel.marked.lits - l.place
