use Rattle.rule_kernel.specs.Frozen.{is_frozen}
use Rattle.var_elim.proofs.Passing.{ruled_turned, passing_none, passing_unmarked, passing_more, pass_ruled, limit_reached, fixpoint_reached}
use Rattle.var_elim.proofs.pass.take_turns.Goals as goal

pub loop-queue-init : goal.loop-queue-init
loop-queue-init c = passing_none (is_frozen c.args.frozen.now) c.args.kernel.now c.new-queue.result.members c.args.limit c.new-queue.ensures.members

pub returns-in_err-next_var-clause-ruled : goal.returns-in_err-next_var-clause-ruled
returns-in_err-next_var-clause-ruled c = ruled_turned (is_frozen c.args.frozen.now) c.args.kernel.now c.loop-queue.kernel c.next_var.new.kernel c.loop-queue.invariant.ruled c.next_var.ensures.unmarks.same

pub returns-in-None-clause-ruled : goal.returns-in-None-clause-ruled
returns-in-None-clause-ruled c = ruled_turned (is_frozen c.args.frozen.now) c.args.kernel.now c.loop-queue.kernel c.next_var.new.kernel c.loop-queue.invariant.ruled c.next_var.ensures.unmarks.same

pub returns-in-None-clause-ended : goal.returns-in-None-clause-ended
returns-in-None-clause-ended c = fixpoint_reached (is_frozen c.args.frozen.now) c.next_var.new.kernel (rw c.in-None.is at c.in_ok-next_var.ensures.none) c.law_promises.ensures

pub returns-in_err-turn-in-Some-clause-ruled : goal.returns-in_err-turn-in-Some-clause-ruled
returns-in_err-turn-in-Some-clause-ruled c =
    let ch = rw c.in-Some.is at c.in_ok-next_var.ensures.some in
    let p = passing_unmarked (is_frozen c.args.frozen.now) c.args.kernel.now c.loop-queue.kernel c.next_var.new.kernel c.loop-queue.queue.members c.next_var.new.queue.members c.in-Some.var c.loop-queue.steps c.args.limit c.loop-queue.invariant c.next_var.ensures.unmarks c.next_var.ensures.idle ch in
    pass_ruled (is_frozen c.args.frozen.now) c.args.kernel.now c.next_var.new.kernel c.turn.new.kernel c.next_var.new.queue.members c.in-Some.var c.loop-queue.steps c.turn.new.steps c.args.limit p ch c.turn.ensures.ruled

pub returns-then-not-branch-clause-ruled : goal.returns-then-not-branch-clause-ruled
returns-then-not-branch-clause-ruled c =
    let ch = rw c.in-Some.is at c.in_ok-next_var.ensures.some in
    let p = passing_unmarked (is_frozen c.args.frozen.now) c.args.kernel.now c.loop-queue.kernel c.next_var.new.kernel c.loop-queue.queue.members c.next_var.new.queue.members c.in-Some.var c.loop-queue.steps c.args.limit c.loop-queue.invariant c.next_var.ensures.unmarks c.next_var.ensures.idle ch in
    pass_ruled (is_frozen c.args.frozen.now) c.args.kernel.now c.next_var.new.kernel c.turn.new.kernel c.next_var.new.queue.members c.in-Some.var c.loop-queue.steps c.turn.new.steps c.args.limit p ch c.turn.ensures.ruled

pub returns-then-not-branch-clause-ended : goal.returns-then-not-branch-clause-ended
returns-then-not-branch-clause-ended c =
    let ch = rw c.in-Some.is at c.in_ok-next_var.ensures.some in
    let p = passing_unmarked (is_frozen c.args.frozen.now) c.args.kernel.now c.loop-queue.kernel c.next_var.new.kernel c.loop-queue.queue.members c.next_var.new.queue.members c.in-Some.var c.loop-queue.steps c.args.limit c.loop-queue.invariant c.next_var.ensures.unmarks c.next_var.ensures.idle ch in
    limit_reached (is_frozen c.args.frozen.now) c.args.kernel.now c.next_var.new.kernel c.turn.new.kernel c.next_var.new.queue.members c.in-Some.var c.loop-queue.steps c.turn.new.steps c.args.limit p ch
    (rw c.if-not-branch.true at c.in_ok-turn-in-Some.ensures.turned)

pub loop-queue-preserved : goal.loop-queue-preserved
loop-queue-preserved c =
    let ch = rw c.in-Some.is at c.in_ok-next_var.ensures.some in
    let p = passing_unmarked (is_frozen c.args.frozen.now) c.args.kernel.now c.loop-queue.kernel c.next_var.new.kernel c.loop-queue.queue.members c.next_var.new.queue.members c.in-Some.var c.loop-queue.steps c.args.limit c.loop-queue.invariant c.next_var.ensures.unmarks c.next_var.ensures.idle ch in
    passing_more (is_frozen c.args.frozen.now) c.args.kernel.now c.next_var.new.kernel c.turn.new.kernel c.next_var.new.queue.members c.in-Some.var c.loop-queue.steps c.turn.new.steps c.args.limit p ch c.turn.ensures.ruled
    (rw c.if-not-branch.false at c.in_ok-turn-in-Some.ensures.turned)
