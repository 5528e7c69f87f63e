use Rattle.rule_kernel.proofs.Keeping.{kept_forgotten}
use Rattle.rule_kernel.proofs.kernel.Kernel.forget.Goals as goal

pub invariant_of-self : goal.invariant_of-self
invariant_of-self c = kept_forgotten c.self.invariant c.remove.ensures (rw (← c.self.view_is) at c.requires)
