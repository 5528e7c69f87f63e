use Rattle.std.proofs.Common.{◌∙◌, ℕ, Option, Some, sym, ap, subst, arith}
use Rattle.std.proofs.lemmas.Bool.{true≢false}
use Rattle.plain_search.proofs.Looking.{SoFar, more_false, more_first, more_open, moved, all_false, all_shut, same_lit}
use Rattle.plain_search.proofs.scan.look.Goals as goal
use Rattle.plain_search.proofs.scan.look.Goals.{in-Some-false, in-None+in-None-first, in-None+in-Some+then-undecided, in-None+in-Some+else-undecided}

pub loop-lit-preserved : goal.loop-lit-preserved
loop-lit-preserved c =
    let steps = c.args.now.now.steps in
    let lits = c.args.lits.now in
    let Q : Option ℕ → Type 0 = λ o. SoFar steps lits c.loop-lit.lit-index c.loop-lit.undecided o in
    elim c.match-value.branch [
      | in-Some-false w ↦ moved _ _ _ _ _ _ _ w.undecided-is w.first-is
          (more_false _ _ _ c.lit-item.result _ _ (omega arith) c.lit-item.is (sym c.value.ensures ∙ w.in-Some-false.is ∙ ap Some w.in-Some-false.field-0-test) c.loop-lit.invariant)
      | in-None+in-None-first w ↦ moved _ _ _ _ _ _ _ w.undecided-is w.first-is
          (more_first _ _ _ c.lit-item.result _ (omega arith) c.lit-item.is (sym c.value.ensures ∙ w.in-None.is) (subst Q w.in-None-first.is c.loop-lit.invariant))
      | in-None+in-Some+then-undecided w ↦ moved _ _ _ _ _ _ _ w.undecided-is (w.first-is)
          (more_open _ _ _ c.lit-item.result _ _ _ (omega arith) c.lit-item.is (λ n. absurd (true≢false (sym w.if-undecided.true ∙ n))) (subst Q w.in-Some.is c.loop-lit.invariant))
      | in-None+in-Some+else-undecided w ↦ moved _ _ _ _ _ _ _ w.undecided-is (w.first-is)
          (more_open _ _ _ c.lit-item.result _ _ _ (omega arith) c.lit-item.is (λ n. (same_lit _ _ (sym w.ne-undecided.ensures ∙ n), w.if-undecided.false)) (subst Q w.in-Some.is c.loop-lit.invariant))
    ]

pub returns-in-None-first-2 : goal.returns-in-None-first-2
returns-in-None-first-2 c =
    let Q : Option ℕ → Type 0 = λ o. SoFar c.args.now.now.steps c.args.lits.now c.loop-lit.lit-index c.loop-lit.undecided o in
    all_false _ _ _ _ (omega arith) (subst Q c.in-None-first-2.is c.loop-lit.invariant)

pub returns-else-undecided-2 : goal.returns-else-undecided-2
returns-else-undecided-2 c =
    let Q : Option ℕ → Type 0 = λ o. SoFar c.args.now.now.steps c.args.lits.now c.loop-lit.lit-index c.loop-lit.undecided o in
    all_shut _ _ _ _ _ (omega arith) c.if-undecided-2.false (subst Q c.in-Some-first.is c.loop-lit.invariant)
