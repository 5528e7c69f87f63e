use Rattle.std.proofs.Common.{◌≡◌, ◌++◌, take}
use Rattle.watch_lists.specs.Watching.{copied}
use Rattle.watch_lists.proofs.copies.append.Given as goal

abbrev pub invariant-loop-lit : goal.invariant-loop-lit
invariant-loop-lit l = l.words.items ≡ l.fn.words.items ++ copied l.first l.second (take l.lit-index l.lits)
