use Rattle.std.proofs.Common.{arith, refl, length-set, ◌∙◌, ◌+◌, take}
use Rattle.conflict_analysis.proofs.Glues.{Gluing, gluing_none, gluing_more, glue_bound}
use Rattle.conflict_analysis.proofs.levels.mark_levels.Goals as goal
use Rattle.conflict_analysis.proofs.levels.mark_levels.Goals.{After-mark_level-glue}

pub loop-lit-init : goal.loop-lit-init
loop-lit-init c = record { gluing = gluing_none c.args.trail.now.steps c.args.trail.now.level c.args.levels.now.items c.requires.room c.requires.clear; long = refl }

more : (c : After-mark_level-glue) → Gluing c.args.trail.now.steps c.args.trail.now.level c.mark_level-glue.new.levels.items (c.loop-lit.glue + c.mark_level-glue.result) (take (c.loop-lit.lit-index + 1) c.args.lits.now)
more c =
    gluing_more c.args.trail.now.steps c.args.trail.now.level c.args.lits.now c.loop-lit.lit-index c.lit-item.result c.loop-lit-test.true c.lit-item.is (rw c.level_of.ensures.value at c.level_of.ensures.bound) c.loop-lit.levels.items c.mark_level-glue.new.levels.items c.loop-lit.glue c.mark_level-glue.result c.loop-lit.invariant.gluing
    (rw c.level_of.ensures.value at c.mark_level-glue.ensures.count) (rw c.level_of.ensures.value at c.mark_level-glue.ensures.marked)

pub overflow_add-glue : goal.overflow_add-glue
overflow_add-glue c =
    let b = glue_bound c.args.trail.now.steps c.args.trail.now.level (take (c.loop-lit.lit-index + 1) c.args.lits.now) in
    let g = more (goal.at.overflow_add-glue c).After-mark_level-glue in
    omega (arith, g.counted, b, c.law_room.ensures.few, c.law_room.ensures.steps, c.law_room.ensures.levels)

pub loop-lit-preserved : goal.loop-lit-preserved
loop-lit-preserved c = record {
  gluing = more (goal.at.loop-lit-preserved c).After-mark_level-glue;
  long = rw c.mark_level-glue.ensures.marked (length-set c.loop-lit.levels.items c.level_of.result _ ∙ c.loop-lit.invariant.long);
}
