use Rattle.std.proofs.Common.{◌<◌, length, sym, ap, arith}
use Rattle.rule_kernel.specs.Frozen.{is_frozen}
use Rattle.blocked_clauses.proofs.Walking.{walking_start, walking_settled, walking_busy, walking_parked, walking_full}
use Rattle.blocked_clauses.proofs.walk.walk_from.Goals as goal

pub loop-place-init : goal.loop-place-init
loop-place-init c = walking_start (is_frozen c.args.frozen.now) c.args.kernel.now c.args.from c.args.steps.now c.args.limit c.requires

pub loop-place-preserved : goal.loop-place-preserved
loop-place-preserved c =
    let in' : c.loop-place.place < length c.loop-place.kernel.marked.lits = let e = ap length c.marked_lits.ensures in omega arith in
    walking_settled (is_frozen c.args.frozen.now) c.args.kernel.now c.loop-place.kernel c.args.from c.loop-place.place c.args.steps.now c.loop-place.steps c.args.limit c.index-marked_lits-place.result
    c.loop-place.invariant in' (rw c.marked_lits-in-loop-place.ensures at c.index-marked_lits-place.is) (sym c.if-is_passed_over.ensures)
    c.try_lit.new.kernel c.try_lit.new.steps (rw c.in-Settled.is at c.in_ok-try_lit.ensures.ok)

pub returns-in-Parked-clause-ruled : goal.returns-in-Parked-clause-ruled
returns-in-Parked-clause-ruled c =
    let in' : c.loop-place.place < length c.loop-place.kernel.marked.lits = let e = ap length c.marked_lits.ensures in omega arith in
    (walking_parked (is_frozen c.args.frozen.now) c.args.kernel.now c.loop-place.kernel c.args.from c.loop-place.place c.args.steps.now c.loop-place.steps c.args.limit c.index-marked_lits-place.result
    c.loop-place.invariant in' (rw c.marked_lits-in-loop-place.ensures at c.index-marked_lits-place.is) (sym c.if-is_passed_over.ensures)
    c.try_lit.new.kernel c.try_lit.new.steps (rw c.in-Parked.is at c.in_ok-try_lit.ensures.ok)).0

pub returns-in-Parked-clause-walked : goal.returns-in-Parked-clause-walked
returns-in-Parked-clause-walked c =
    let in' : c.loop-place.place < length c.loop-place.kernel.marked.lits = let e = ap length c.marked_lits.ensures in omega arith in
    (walking_parked (is_frozen c.args.frozen.now) c.args.kernel.now c.loop-place.kernel c.args.from c.loop-place.place c.args.steps.now c.loop-place.steps c.args.limit c.index-marked_lits-place.result
    c.loop-place.invariant in' (rw c.marked_lits-in-loop-place.ensures at c.index-marked_lits-place.is) (sym c.if-is_passed_over.ensures)
    c.try_lit.new.kernel c.try_lit.new.steps (rw c.in-Parked.is at c.in_ok-try_lit.ensures.ok)).1

pub returns-in-Parked-clause-idle : goal.returns-in-Parked-clause-idle
returns-in-Parked-clause-idle c h =
    let in' : c.loop-place.place < length c.loop-place.kernel.marked.lits = let e = ap length c.marked_lits.ensures in omega arith in
    absurd (walking_busy (is_frozen c.args.frozen.now) c.args.kernel.now c.loop-place.kernel c.args.from c.loop-place.place c.args.steps.now c.loop-place.steps c.args.limit c.index-marked_lits-place.result
    c.loop-place.invariant in' (rw c.marked_lits-in-loop-place.ensures at c.index-marked_lits-place.is) (sym c.if-is_passed_over.ensures) h)

pub returns-in-Full-clause-walked : goal.returns-in-Full-clause-walked
returns-in-Full-clause-walked c =
    let in' : c.loop-place.place < length c.loop-place.kernel.marked.lits = let e = ap length c.marked_lits.ensures in omega arith in
    (walking_full (is_frozen c.args.frozen.now) c.args.kernel.now c.loop-place.kernel c.args.from c.loop-place.place c.args.steps.now c.loop-place.steps c.args.limit c.index-marked_lits-place.result
    c.loop-place.invariant in' (rw c.marked_lits-in-loop-place.ensures at c.index-marked_lits-place.is) (sym c.if-is_passed_over.ensures)
    c.try_lit.new.kernel c.try_lit.new.steps (rw c.in-Full.is at c.in_ok-try_lit.ensures.ok)).1
