use Rattle.std.proofs.Common.{◌≡◌, ◌++◌, take}
use Rattle.clause_store.specs.Spots.{ends}
use Rattle.clause_store.proofs.spots.append_ends.Given as goal

abbrev pub invariant-loop-i : goal.invariant-loop-i
invariant-loop-i l = l.cells.items ≡ l.fn.cells.items ++ ends l.lists (take l.i l.lits)
