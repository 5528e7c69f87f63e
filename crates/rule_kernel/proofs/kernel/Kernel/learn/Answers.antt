use Rattle.rule_kernel.proofs.Keeping.{kept_learned}
use Rattle.rule_kernel.proofs.kernel.Kernel.learn.Goals as goal

pub invariant_of-self-2 : goal.invariant_of-self-2
invariant_of-self-2 c = kept_learned c.self.invariant _ _ c.in_ok-id.ensures.ok
