use Rattle.std.proofs.Common.{arith, refl, sym, ◌∙◌, eqb}
use Rattle.conflict_analysis.specs.Walking.{marks_on}
use Rattle.conflict_analysis.proofs.Marking.{open_count-bound}
use Rattle.conflict_analysis.proofs.Variables.{var_wide, covered_marked, covered_root, marking_noted, covered_noted}
use Rattle.conflict_analysis.proofs.scratch.Scratch.mark.Goals as goal

pub is_marked-requires : goal.is_marked-requires
is_marked-requires c = var_wide c.args.trail.now c.args.below c.args.lit c.args.self.now c.law_shape.ensures c.law_room.ensures c.requires.marking c.requires.is_false

pub returns-then-is_marked-clause-covered : goal.returns-then-is_marked-clause-covered
returns-then-is_marked-clause-covered c off = covered_marked c.args.trail.now c.args.below c.args.lit c.args.self.now.seen c.law_shape.ensures off (sym c.is_marked.ensures ∙ c.if-is_marked.true)

pub returns-then-level-eq0-clause-covered : goal.returns-then-level-eq0-clause-covered
returns-then-level-eq0-clause-covered c off = covered_root c.args.trail.now c.args.below c.args.lit c.args.self.now.seen c.law_shape.ensures off (sym c.level_of-level.ensures.value ∙ c.if-level-eq0.true)

pub note-requires-clause-wide : goal.note-requires-clause-wide
note-requires-clause-wide c = var_wide c.args.trail.now c.args.below c.args.lit c.args.self.now c.law_shape.ensures c.law_room.ensures c.requires.marking c.requires.is_false

pub note-requires-clause-few : goal.note-requires-clause-few
note-requires-clause-few c =
    let b = open_count-bound c.args.trail.now.steps (marks_on c.args.self.now.seen c.args.trail.now.steps) c.args.trail.now.level c.args.below in
    omega (arith, b, c.requires.marking.marked.counted, c.requires.within, c.law_room.ensures.few, c.law_room.ensures.steps)

pub returns-clause-marking : goal.returns-clause-marking
returns-clause-marking c =
    let off = sym c.is_marked.ensures ∙ c.if-is_marked.false in
    rw c.in_ok-note.ensures
    (marking_noted c.args.trail.now c.args.below c.args.lit c.args.self.now c.law_shape.ensures c.law_room.ensures c.requires.marking off (c.requires.is_false off) (omega (arith, c.level_of-level.ensures.value, c.if-level-eq0.false)) _
    (rw (c.level_of-level.ensures.value, c.level.ensures) refl))

pub returns-clause-covered : goal.returns-clause-covered
returns-clause-covered c =
    let off = sym c.is_marked.ensures ∙ c.if-is_marked.false in
    rw c.in_ok-note.ensures
    (λ is_off. covered_noted c.args.trail.now c.args.below c.args.lit c.args.self.now c.law_shape.ensures c.law_room.ensures c.requires.marking off (c.requires.is_false off) (omega (arith, c.level_of-level.ensures.value, c.if-level-eq0.false)) (eqb c.level_of-level.result c.level.result))
