use Rattle.std.proofs.Common.{◌<◌, ◌≤◌, ◌+◌, length, ap, arith}
use Rattle.firm_terms.specs.Firm.{firm}
use Rattle.pass_terms.proofs.Ruling.{ruled_trans}
use Rattle.pass_terms.specs.Ruled.{always}
use Rattle.subsume_pass.specs.Trying.{Refutes, Settles, Advances, Stops}
use Rattle.subsume_pass.proofs.Passing.{pausing_none, pausing_more, goes_on, runs_out, ends_well, ends_refuted, some_waits, fixpoint}
use Rattle.subsume_pass.proofs.pass.one_round.Goals as goal
use Rattle.subsume_pass.proofs.pass.one_round.Goals.{then-due-gt0, else-due-gt0+then-fresh-gt0}

pub loop-kernel-init : goal.loop-kernel-init
loop-kernel-init c = pausing_none c.args.kernel.now c.args.steps.now c.args.limit c.requires.few c.requires.rest

pub returns-in_err-one_turn-clause-ruled : goal.returns-in_err-one_turn-clause-ruled
returns-in_err-one_turn-clause-ruled c = ruled_trans always c.args.kernel.now c.loop-kernel.kernel c.one_turn.new.kernel c.loop-kernel.invariant.ruled c.one_turn.ensures.ruled

pub loop-kernel-preserved : goal.loop-kernel-preserved
loop-kernel-preserved c =
    let k : Settles c.loop-kernel.kernel c.one_turn.new.kernel c.loop-kernel.steps c.one_turn.new.steps c.args.limit = rw c.in-Done.is at c.in_ok-one_turn.ensures.passed in
    pausing_more c.args.kernel.now c.loop-kernel.kernel c.args.steps.now c.loop-kernel.steps c.args.limit c.loop-kernel.invariant c.one_turn.new.kernel c.one_turn.new.steps c.one_turn.ensures.ruled k

pub returns-in-Refuted-clause-ruled : goal.returns-in-Refuted-clause-ruled
returns-in-Refuted-clause-ruled c = ruled_trans always c.args.kernel.now c.loop-kernel.kernel c.one_turn.new.kernel c.loop-kernel.invariant.ruled c.one_turn.ensures.ruled

pub returns-in-Full-clause-ruled : goal.returns-in-Full-clause-ruled
returns-in-Full-clause-ruled c = ruled_trans always c.args.kernel.now c.loop-kernel.kernel c.one_turn.new.kernel c.loop-kernel.invariant.ruled c.one_turn.ensures.ruled

pub returns-in-Changed-clause-ruled : goal.returns-in-Changed-clause-ruled
returns-in-Changed-clause-ruled c = ruled_trans always c.args.kernel.now c.loop-kernel.kernel c.one_turn.new.kernel c.loop-kernel.invariant.ruled c.one_turn.ensures.ruled

pub returns-in-Full-clause-rounded : goal.returns-in-Full-clause-rounded
returns-in-Full-clause-rounded c =
    let k : Stops c.loop-kernel.kernel c.one_turn.new.kernel c.loop-kernel.steps c.one_turn.new.steps c.args.limit = rw c.in-Full.is at c.in_ok-one_turn.ensures.passed in
    runs_out c.args.kernel.now c.loop-kernel.kernel c.args.steps.now c.loop-kernel.steps c.args.limit c.loop-kernel.invariant c.one_turn.new.kernel c.one_turn.new.steps k

pub returns-in-Changed-clause-rounded : goal.returns-in-Changed-clause-rounded
returns-in-Changed-clause-rounded c =
    let k : Advances c.loop-kernel.kernel c.one_turn.new.kernel c.loop-kernel.steps c.one_turn.new.steps c.args.limit = rw c.in-Changed.is at c.in_ok-one_turn.ensures.passed in
    let some : 0 < length c.loop-kernel.kernel.waiting.due + length c.loop-kernel.kernel.waiting.fresh = elim c.if-due-gt0.branch [
      | then-due-gt0 w ↦ omega (arith, w.if-due-gt0.true, ap length c.due.ensures)
      | else-due-gt0+then-fresh-gt0 w ↦ omega (arith, w.if-fresh-gt0.true, ap length w.fresh.ensures)
    ] in
    goes_on c.args.kernel.now c.loop-kernel.kernel c.args.steps.now c.loop-kernel.steps c.args.limit c.loop-kernel.invariant c.one_turn.new.kernel c.one_turn.new.steps (some_waits c.loop-kernel.kernel some) k

pub returns-clause-rounded : goal.returns-clause-rounded
returns-clause-rounded c =
    let no_due : length c.loop-kernel.kernel.waiting.due ≤ 0 = omega (arith, c.if-due-gt0.false, ap length c.due.ensures) in
    let no_fresh : length c.loop-kernel.kernel.waiting.fresh ≤ 0 = omega (arith, c.if-fresh-gt0.false, ap length c.fresh.ensures) in
    ends_well c.args.kernel.now c.loop-kernel.kernel c.args.steps.now c.loop-kernel.steps c.args.limit c.loop-kernel.invariant (fixpoint c.loop-kernel.kernel no_due no_fresh c.law_promises.ensures)

pub returns-in-Refuted-clause-rounded : goal.returns-in-Refuted-clause-rounded
returns-in-Refuted-clause-rounded c =
    let k : Refutes c.one_turn.new.kernel.store (length (firm c.loop-kernel.kernel.store)) c.loop-kernel.steps c.one_turn.new.steps = rw c.in-Refuted.is at c.in_ok-one_turn.ensures.passed in
    let some : 0 < length c.loop-kernel.kernel.waiting.due + length c.loop-kernel.kernel.waiting.fresh = elim c.if-due-gt0.branch [
      | then-due-gt0 w ↦ omega (arith, w.if-due-gt0.true, ap length c.due.ensures)
      | else-due-gt0+then-fresh-gt0 w ↦ omega (arith, w.if-fresh-gt0.true, ap length w.fresh.ensures)
    ] in
    ends_refuted c.args.kernel.now c.loop-kernel.kernel c.args.steps.now c.loop-kernel.steps c.args.limit c.loop-kernel.invariant c.one_turn.new.kernel c.one_turn.new.steps (some_waits c.loop-kernel.kernel some) k
