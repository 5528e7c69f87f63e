use Rattle.redundancy.proofs.Chains.{Chain-extend}
use Rattle.rule_kernel.proofs.kernel.Kernel.extend.Goals as goal

pub returns-clause-firm : goal.returns-clause-firm
returns-clause-firm c =
    rw (c.extend.ensures, ← c.self.view_is) (Chain-extend _ _ _ c.self.invariant.chain (rw (← c.self.view_is) at c.requires.firm)).0

pub returns-clause-stacked : goal.returns-clause-stacked
returns-clause-stacked c =
    rw (c.extend.ensures, ← c.self.view_is) (Chain-extend _ _ _ c.self.invariant.chain (rw (← c.self.view_is) at c.requires.firm)).1
