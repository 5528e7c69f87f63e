use Rattle.std.proofs.Common.{◌≡◌, ◌-◌, ◌≤◌, ◌++◌, length, take, drop}
use Rattle.watch_lists.proofs.visits.close_gap.Given as goal

abbrev pub invariant-loop-from : goal.invariant-loop-from
invariant-loop-from l = (l.to ≤ l.from) × (take l.to l.ws.items ++ drop l.from l.ws.items ≡ take l.initial.to l.initial.ws.items ++ drop l.initial.from l.initial.ws.items)

abbrev pub decreases-loop-from : goal.decreases-loop-from
decreases-loop-from l = length l.ws.items - l.from
