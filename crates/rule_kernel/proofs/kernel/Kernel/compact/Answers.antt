use Rattle.rule_kernel.proofs.Keeping.{kept_same}
use Rattle.rule_kernel.proofs.kernel.Kernel.compact.Goals as goal

pub invariant_of-self : goal.invariant_of-self
invariant_of-self c = kept_same c.self.invariant c.compact.ensures
