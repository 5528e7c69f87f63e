use Rattle.std.proofs.Common.{List, length-set, arith}
use Rattle.watch_lists.specs.declared.lists.Watch.{Watch}
use Rattle.trail_state.proofs.Places.{lit_read}
use Rattle.watch_lists.proofs.Runs.{fallen_here, answer_from, passed, step_later}
use Rattle.watch_lists.proofs.visits.pass.Goals as goal

pub visit-answer-requires-clause-fallen : goal.visit-answer-requires-clause-fallen
visit-answer-requires-clause-fallen c =
    let lit = lit_read c.args.trail.now.steps c.args.place c.index-lits-place.result c.requires.within (rw c.lits.ensures at c.index-lits-place.is) in
    fallen_here _ c.args.place _ _ c.requires.within lit c.neg-f.ensures

pub returns-clause-answer : goal.returns-clause-answer
returns-clause-answer c =
    let lit = lit_read c.args.trail.now.steps c.args.place c.index-lits-place.result c.requires.within (rw c.lits.ensures at c.index-lits-place.is) in
    answer_from _ _ _ c.visit-answer.result c.visit-answer.ensures.answer
    (λ all. passed _ _ _ c.neg-f.result c.args.place _ _ _ _ (omega (arith, length-set {A = List Watch})) (step_later _ _ _ _ _ _ _ c.visit-answer.ensures.grown c.requires.within lit c.neg-f.ensures) c.visit-answer.ensures.kept all)
