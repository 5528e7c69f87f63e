use Rattle.std.proofs.Common.{arith}
use Rattle.clause_store.proofs.Placing.{placed_at, found_at}
use Rattle.clause_store.proofs.kinds.take_out.Goals as goal

pub index-requires-2 : goal.index-requires-2
index-requires-2 c =
    let at = placed_at _ _ _ c.requires.placed c.requires.holds in
    omega (arith, at.known, c.index.ensures)

pub swap_remove-requires : goal.swap_remove-requires
swap_remove-requires c =
    let found = found_at _ _ _ _ _ c.requires.placed c.requires.holds c.index.ensures c.index-2.ensures in
    omega (arith, found.within)

pub returns-then-at-len-clause-gone : goal.returns-then-at-len-clause-gone
returns-then-at-len-clause-gone c =
    let found = found_at _ _ _ _ _ c.requires.placed c.requires.holds c.index.ensures c.index-2.ensures in
    rw c.swap_remove.ensures.items (found.gains _)

pub returns-else-at-len-clause-gone : goal.returns-else-at-len-clause-gone
returns-else-at-len-clause-gone c =
    let found = found_at _ _ _ _ _ c.requires.placed c.requires.holds c.index.ensures c.index-2.ensures in
    rw c.swap_remove.ensures.items (found.gains _)
