use Rattle.std.proofs.Common.{◌≤◌, length, ap, arith}
use Rattle.rule_kernel.specs.Frozen.{is_frozen}
use Rattle.pass_terms.specs.Ruled.Ruled.{none}
use Rattle.subsume_pass.proofs.Passing.{fixpoint, ruled_marked}
use Rattle.subsume_pass.proofs.pass.run.Goals as goal

pub returns-then-fresh-eq0-clause-ruled : goal.returns-then-fresh-eq0-clause-ruled
returns-then-fresh-eq0-clause-ruled c = none

pub returns-then-fresh-eq0-clause-ended : goal.returns-then-fresh-eq0-clause-ended
returns-then-fresh-eq0-clause-ended c =
    let no_due : length c.args.kernel.now.waiting.due ≤ 0 = omega (arith, c.if-due-eq0.true, ap length c.due.ensures) in
    let no_fresh : length c.args.kernel.now.waiting.fresh ≤ 0 = omega (arith, c.if-fresh-eq0.true, ap length c.fresh.ensures) in
    fixpoint c.args.kernel.now no_due no_fresh c.law_promises.ensures

pub returns-then-is_refuted-clause-ruled : goal.returns-then-is_refuted-clause-ruled
returns-then-is_refuted-clause-ruled c = none

pub returns-in_err-ended-clause-ruled : goal.returns-in_err-ended-clause-ruled
returns-in_err-ended-clause-ruled c = ruled_marked (is_frozen c.args.frozen.now) c.args.kernel.now c.let_few_wait.new.kernel c.work_off.new.kernel c.let_few_wait.ensures.same c.work_off.ensures.ruled

pub returns-clause-ruled : goal.returns-clause-ruled
returns-clause-ruled c = ruled_marked (is_frozen c.args.frozen.now) c.args.kernel.now c.let_few_wait.new.kernel c.work_off.new.kernel c.let_few_wait.ensures.same c.work_off.ensures.ruled
