use Rattle.std.proofs.Common.{◌≡◌, ◌∙◌, sym, ap}
use Rattle.redundancy.specs.Redundancy.{is_clean}
use Rattle.redundancy.proofs.Touching.{Clean-from_test, is_clean-from}
use Rattle.witness_stack.proofs.Counted.{clean_by_counts}
use Rattle.witness_stack.proofs.stack.Stack.is_clean.Goals as goal

pub returns : goal.returns
returns c =
    let test : c.all_free.result ≡ is_clean c.args.lits.now c.args.self.now =
    c.all_free.ensures ∙ clean_by_counts c.self.inside.counts c.args.lits.now c.self.inside.entries c.self.invariant.counts ∙ ap (is_clean c.args.lits.now) c.self.view_is in (
      λ h. Clean-from_test c.args.lits.now c.args.self.now (sym test ∙ h),
      λ h. test ∙ is_clean-from c.args.lits.now c.args.self.now h,
    )
