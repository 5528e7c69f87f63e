use Rattle.std.proofs.Common.{◌∙◌, ap, sym}
use Rattle.trail_state.specs.Trail.{place_on}
use Rattle.watch_lists.proofs.Lows.{low_nowhere, low_true, low_before, low_level}
use Rattle.watch_lists.proofs.waiting.low_head.Goals as goal

pub returns-in_default-clause-low : goal.returns-in_default-clause-low
returns-in_default-clause-low c = low_nowhere _ _ _ _ (ap (place_on c.args.trail.now.steps) (sym c.var.ensures.value) ∙ sym c.place_of.ensures ∙ c.in_default.is)

pub returns-then-is_true-clause-low : goal.returns-then-is_true-clause-low
returns-then-is_true-clause-low c = low_true _ _ _ _ _ c.law_shape.ensures (sym c.is_true.ensures ∙ c.if-is_true.true)

pub returns-then-is_no_higher-clause-low : goal.returns-then-is_no_higher-clause-low
returns-then-is_no_higher-clause-low c =
    low_level _ _ _ _ _ c.in-Some.place c.law_shape.ensures (ap (place_on c.args.trail.now.steps) (sym c.var.ensures.value) ∙ sym c.place_of.ensures ∙ c.in-Some.is) (sym c.is_true-2.ensures ∙ c.if-is_true-2.true)
    (rw (c.level_of-level.ensures, c.level_of-level_of_other.ensures, c.var-2.ensures.value, c.var-3.ensures.value) at (c.is_no_higher.ensures c.if-is_no_higher.true))

pub returns-clause-low : goal.returns-clause-low
returns-clause-low c = low_before _ _ _ _ _ c.in-Some.place c.law_shape.ensures (ap (place_on c.args.trail.now.steps) (sym c.var.ensures.value) ∙ sym c.place_of.ensures ∙ c.in-Some.is) c.lower.ensures.right
