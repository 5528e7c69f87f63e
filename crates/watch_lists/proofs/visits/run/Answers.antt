use Rattle.std.proofs.Common.{length, ◌∙◌, ap, refl, arith}
use Rattle.std.proofs.lemmas.List.{length-map}
use Rattle.trail_state.specs.declared.trail.Step.{Step}
use Rattle.watch_lists.proofs.Looks.{keeps_same, keeps_then}
use Rattle.watch_lists.proofs.Growing.{grown_more, grown_longer}
use Rattle.watch_lists.proofs.Runs.{place_in, run_starts, run_passes, run_follows, run_quiet}
use Rattle.watch_lists.proofs.visits.run.Goals as goal

pub each-init : goal.each-init
each-init c = record {
  running = run_starts _ _ _ _ _ _ _ _ refl c.requires.kept c.requires.follows c.sure_from-sure.ensures.above c.sure_from-sure.ensures.level;
  copied = c.requires.copied;
  keeps = keeps_same _;
}

pub each-preserved : goal.each-preserved
each-preserved c =
    let in' = place_in _ c.each.trail.steps c.each.place c.lits.ensures c.each-test.true in
    let r = c.each.invariant.running in
    record {
      running = run_passes _ _ _ _ _ _ _ _ _ _ _ _ _ c.law_shape.ensures r in' (c.pass-answer.ensures.sized ∙ r.sized)
          (rw r.sized at c.pass-answer.ensures.kept)
          c.pass-answer.ensures.grown c.pass-answer.ensures.covers
          (rw c.in-None.is at (rw c.in-Ok.is at c.pass-answer.ensures.answer));
      copied = c.pass-answer.ensures.copied;
      keeps = keeps_then _ _ _ c.each.invariant.keeps c.pass-answer.ensures.keeps;
    }

pub returns-in-Some-clause-grown : goal.returns-in-Some-clause-grown
returns-in-Some-clause-grown c = grown_more _ _ _ _ _ c.each.invariant.running.grown c.pass-answer.ensures.grown

pub returns-in-Some-clause-follows : goal.returns-in-Some-clause-follows
returns-in-Some-clause-follows c =
    run_follows _ _ _ _ _ _ _ _ c.each.invariant.running.covers c.each.invariant.running.within (grown_longer _ _ _ _ c.pass-answer.ensures.grown) c.pass-answer.ensures.covers c.lower-in-Some.ensures.left c.lower-in-Some.ensures.right

pub returns-in-Err-clause-grown : goal.returns-in-Err-clause-grown
returns-in-Err-clause-grown c = grown_more _ _ _ _ _ c.each.invariant.running.grown c.pass-answer.ensures.grown

pub returns-in-Err-clause-follows : goal.returns-in-Err-clause-follows
returns-in-Err-clause-follows c =
    run_follows _ _ _ _ _ _ _ _ c.each.invariant.running.covers c.each.invariant.running.within (grown_longer _ _ _ _ c.pass-answer.ensures.grown) c.pass-answer.ensures.covers c.lower.ensures.left c.lower.ensures.right

pub returns-clause-follows : goal.returns-clause-follows
returns-clause-follows c =
    run_follows _ _ _ _ _ _ _ _ c.each.invariant.running.covers c.each.invariant.running.within (omega arith) (record { covers = λ m sure most h. h }) c.lower-2.ensures.left c.lower-2.ensures.right

pub returns-clause-answer : goal.returns-clause-answer
returns-clause-answer c = run_quiet _ _ _ _ _ _ _ _ _ _ c.law_shape-2.ensures c.each.invariant.running (let a = ap length c.lits.ensures in let b = length-map c.each.trail.steps (λ (x : Step). x.lit) in omega arith)

pub returns-in-Some-clause-keeps : goal.returns-in-Some-clause-keeps
returns-in-Some-clause-keeps c = keeps_then _ _ _ c.each.invariant.keeps c.pass-answer.ensures.keeps

pub returns-in-Err-clause-keeps : goal.returns-in-Err-clause-keeps
returns-in-Err-clause-keeps c = keeps_then _ _ _ c.each.invariant.keeps c.pass-answer.ensures.keeps
