use Rattle.pass_terms.proofs.Ruling.{ruled_trans}
use Rattle.pass_terms.specs.Ruled.{always}
use Rattle.subsume_pass.specs.Pass.{GoesOn, RunsOut}
use Rattle.subsume_pass.proofs.Passing.{passing_none, passing_more, passing_full}
use Rattle.subsume_pass.proofs.pass.work_off.Goals as goal

pub loop-init : goal.loop-init
loop-init c = passing_none c.args.kernel.now c.args.limit c.requires.few

pub returns-in_err-one_round-clause-ruled : goal.returns-in_err-one_round-clause-ruled
returns-in_err-one_round-clause-ruled c = ruled_trans always c.args.kernel.now c.loop.kernel c.one_round.new.kernel c.loop.invariant.ruled c.one_round.ensures.ruled

pub loop-preserved : goal.loop-preserved
loop-preserved c =
    let k : GoesOn c.loop.kernel c.one_round.new.kernel c.loop.steps c.one_round.new.steps c.args.limit = rw c.in-Changed.is at c.in_ok-one_round.ensures.rounded in
    passing_more c.args.kernel.now c.loop.kernel c.one_round.new.kernel c.loop.steps c.one_round.new.steps c.args.limit c.loop.invariant c.one_round.ensures.ruled k

pub returns-in-Quiet-clause-ruled : goal.returns-in-Quiet-clause-ruled
returns-in-Quiet-clause-ruled c = ruled_trans always c.args.kernel.now c.loop.kernel c.one_round.new.kernel c.loop.invariant.ruled c.one_round.ensures.ruled

pub returns-in-Full-clause-ruled : goal.returns-in-Full-clause-ruled
returns-in-Full-clause-ruled c = ruled_trans always c.args.kernel.now c.loop.kernel c.one_round.new.kernel c.loop.invariant.ruled c.one_round.ensures.ruled

pub returns-in-Full-clause-ended : goal.returns-in-Full-clause-ended
returns-in-Full-clause-ended c =
    let k : RunsOut c.loop.kernel c.one_round.new.kernel c.loop.steps c.one_round.new.steps c.args.limit = rw c.in-Full.is at c.in_ok-one_round.ensures.rounded in
    passing_full c.args.kernel.now c.loop.kernel c.one_round.new.kernel c.loop.steps c.one_round.new.steps c.args.limit c.loop.invariant k
