use Rattle.std.proofs.Common.{refl, sym}
use Rattle.firm_terms.proofs.Staying.{untied_same}
use Rattle.rule_kernel.specs.Frozen.{is_frozen}
use Rattle.rule_kernel.proofs.Keeping.{kept_marks}
use Rattle.rule_kernel.proofs.Promising.{promises_settled}
use Rattle.rule_kernel.proofs.kernel.Kernel.settle_untied.Goals as goal

pub invariant_of-self-2 : goal.invariant_of-self-2
invariant_of-self-2 c =
    kept_marks c.self.invariant _ _ _ refl refl refl
    (promises_settled c.self.invariant.promises _
    (λ _. untied_same (is_frozen c.args.frozen.now) _ c.self.inside.store (λ v. sym (c.in_ok-settle_untied.ensures.ok.frozen v)) (rw (← c.self.view_is) at c.requires))
    (rw c.settle_untied.ensures.calm c.self.invariant.promises.calm))
