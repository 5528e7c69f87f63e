use Rattle.std.proofs.Common.{◌∙◌, sym, refl}
use Rattle.watch_lists.proofs.Watched.{true_some}
use Rattle.watch_lists.proofs.Shortages.{met_true, met_assigned}
use Rattle.watch_lists.proofs.shorts.look_at.Goals as goal

pub returns-in-Some-true-clause-met : goal.returns-in-Some-true-clause-met
returns-in-Some-true-clause-met c = λ _.
    met_true _ _ c.index-clause-0.result (rw c.get-clause.ensures.value at (sym c.is_empty.ensures ∙ c.if-is_empty.false)) (rw c.get-clause.ensures.value at c.index-clause-0.is)
    (sym (true_some c.args.trail.now.steps c.index-clause-0.result _ (sym c.value.ensures ∙ c.in-Some-true.is)) ∙ c.in-Some-true.field-0-test)

pub returns-in-None-clause-met : goal.returns-in-None-clause-met
returns-in-None-clause-met c = λ _.
    met_assigned _ _ _ _ c.index-clause-0.result (rw c.get-clause.ensures.value at (sym c.is_empty.ensures ∙ c.if-is_empty.false)) (rw c.get-clause.ensures.value at c.index-clause-0.is) c.assign.ensures.steps refl
