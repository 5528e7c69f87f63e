use Rattle.std.proofs.Common.{◌≡◌, ◌<◌, ◌-◌, true, length, ap, arith}
use Rattle.sat_terms.specs.Literal.{has}
use Rattle.firm_terms.specs.Firm.{firm}
use Rattle.subsume_pass.specs.Trying.{TestedIdly, TestedWell, CameFull}
use Rattle.subsume_pass.proofs.Trying.{last_read, settles, advances, stops, ruled_settled}
use Rattle.subsume_pass.proofs.turn.turn_due.Goals as goal

pub try_on_all-requires-clause-by : goal.try_on_all-requires-clause-by
try_on_all-requires-clause-by c =
    let due = c.due-due.result.now in
    let lt : length due - 1 < length due = omega (arith, c.requires.some, ap length c.due-due.ensures) in
    let there : has due c.index-due-due.result ≡ true = last_read due (length due - 1) c.index-due-due.result lt c.index-due-due.is in
    c.law_promises.ensures.due c.index-due-due.result (rw c.due-due.ensures at there)

pub returns-in-Done-clause-ruled : goal.returns-in-Done-clause-ruled
returns-in-Done-clause-ruled c = ruled_settled c.args.kernel.now c.try_on_all.new.kernel c.settle_due.new.self c.try_on_all.ensures.ruled c.settle_due.ensures.rest

pub returns-in-Done-clause-passed : goal.returns-in-Done-clause-passed
returns-in-Done-clause-passed c =
    let due = c.due-due.result.now in
    let lt : length due - 1 < length due = omega (arith, c.requires.some, ap length c.due-due.ensures) in
    let there : has due c.index-due-due.result ≡ true = last_read due (length due - 1) c.index-due-due.result lt c.index-due-due.is in
    let k : TestedIdly c.args.kernel.now c.try_on_all.new.kernel c.index-due-due.result (length (firm c.args.kernel.now.store)) c.args.steps.now c.try_on_all.new.steps c.args.limit = rw c.in-Done.is at c.in_ok-try_on_all.ensures.turned in
    settles c.args.kernel.now c.try_on_all.new.kernel c.settle_due.new.self c.index-due-due.result c.args.steps.now c.try_on_all.new.steps c.args.limit (rw c.due-due.ensures at there) k c.settle_due.ensures.due c.settle_due.ensures.fresh c.settle_due.ensures.rest

pub returns-in-Changed-clause-ruled : goal.returns-in-Changed-clause-ruled
returns-in-Changed-clause-ruled c = ruled_settled c.args.kernel.now c.try_on_all.new.kernel c.settle_due-in-Changed.new.self c.try_on_all.ensures.ruled c.settle_due-in-Changed.ensures.rest

pub returns-in-Changed-clause-passed : goal.returns-in-Changed-clause-passed
returns-in-Changed-clause-passed c =
    let k : TestedWell c.args.kernel.now c.try_on_all.new.kernel c.index-due-due.result (length (firm c.args.kernel.now.store)) c.args.steps.now c.try_on_all.new.steps c.args.limit = rw c.in-Changed.is at c.in_ok-try_on_all.ensures.turned in
    advances c.args.kernel.now c.try_on_all.new.kernel c.settle_due-in-Changed.new.self c.index-due-due.result c.args.steps.now c.try_on_all.new.steps c.args.limit c.try_on_all.ensures.keeps k c.settle_due-in-Changed.ensures.fresh c.settle_due-in-Changed.ensures.rest c.law_promises-in-Changed.ensures

pub returns-in-Full-clause-passed : goal.returns-in-Full-clause-passed
returns-in-Full-clause-passed c =
    let k : CameFull (length (firm c.args.kernel.now.store)) c.args.steps.now c.try_on_all.new.steps c.args.limit = rw c.in-Full.is at c.in_ok-try_on_all.ensures.turned in
    stops c.args.kernel.now c.try_on_all.new.kernel c.index-due-due.result c.args.steps.now c.try_on_all.new.steps c.args.limit c.requires.some c.try_on_all.ensures.keeps k
