use Rattle.std.proofs.Common.{take}
use Rattle.search_engine.specs.Turns.{FreesAll}
use Rattle.search_engine.proofs.forgetting.remove_all.Given as goal

abbrev pub invariant-loop-i : goal.invariant-loop-i
invariant-loop-i l = FreesAll l.initial.store l.store (take l.i l.ids)
