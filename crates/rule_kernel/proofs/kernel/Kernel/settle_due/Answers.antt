use Rattle.std.proofs.Common.{refl}
use Rattle.rule_kernel.proofs.Keeping.{kept_marks}
use Rattle.rule_kernel.proofs.Promising.{promises_due}
use Rattle.rule_kernel.proofs.kernel.Kernel.settle_due.Goals as goal

pub invariant_of-self : goal.invariant_of-self
invariant_of-self c =
    kept_marks c.self.invariant _ _ _ refl c.settle_due.ensures.room c.settle_due.ensures.signatures
    (promises_due c.self.invariant.promises _ c.args.id c.settle_due.ensures.due c.settle_due.ensures.fresh (rw (← c.self.view_is) at c.requires.done) (rw (← c.self.view_is) at c.requires.fresh))
