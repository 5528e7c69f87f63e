use Rattle.std.proofs.Common.{arith}
use Rattle.conflict_analysis.proofs.Clearing.{swapped_left, swapped_gone}
use Rattle.conflict_analysis.proofs.scratch.Scratch.drop_lit.Goals as goal

pub returns-clause-left : goal.returns-clause-left
returns-clause-left c = rw (← c.self.view_is) (swapped_left _ _ c.args.index _ c.swap_remove.ensures.by_index (omega arith) (omega (arith, c.swap_remove.ensures.len)))

pub returns-clause-gone : goal.returns-clause-gone
returns-clause-gone c =
    let within = rw (← c.self.view_is) at c.requires in
    rw (← c.self.view_is) (λ l. swapped_gone _ _ c.args.index _ c.swap_remove.ensures.by_index (omega arith) (omega (arith, c.swap_remove.ensures.len)) l (omega arith))
