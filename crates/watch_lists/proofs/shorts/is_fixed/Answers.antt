use Rattle.std.proofs.Common.{◌∙◌, sym, ap}
use Rattle.trail_state.specs.Trail.{level_on}
use Rattle.watch_lists.proofs.Shortages.{fixed_at}
use Rattle.watch_lists.proofs.shorts.is_fixed.Goals as goal

pub returns-then-at_root : goal.returns-then-at_root
returns-then-at_root c = λ on.
    fixed_at _ _ _ c.index-clause-0.result c.in-Some.level c.law_shape.ensures (rw c.get-clause.ensures.value at (sym c.is_empty.ensures ∙ c.if-is_empty.false)) (rw c.get-clause.ensures.value at c.index-clause-0.is)
    (ap (level_on c.args.trail.now.steps) (sym c.var.ensures.value) ∙ sym c.level_of.ensures ∙ c.in-Some.is) c.if-at_root.true (sym c.is_true.ensures ∙ on)
