use Rattle.rule_kernel.proofs.Keeping.{kept_none}
use Rattle.rule_kernel.proofs.Promising.{promises_none}
use Rattle.rule_kernel.proofs.kernel.Kernel.new.Goals as goal

pub invariant_of-result : goal.invariant_of-result
invariant_of-result c =
    kept_none _ _ _ _ _ c.new.ensures c.new-2.ensures (promises_none _ _ _ c.new-4.ensures.due c.new-4.ensures.fresh c.new-5.ensures.untied c.new-5.ensures.calm)
