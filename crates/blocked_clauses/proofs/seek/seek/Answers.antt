use Rattle.std.proofs.Common.{arith}
use Rattle.blocked_clauses.proofs.Asking.{seeking_more, sought_at, sought_full, sought_none}
use Rattle.blocked_clauses.proofs.seek.seek.Goals as goal

pub returns-in-Blocked : goal.returns-in-Blocked
returns-in-Blocked c =
    sought_at c.args.store.now c.args.lit c.occ-id-items.result.now c.occ-others.result.now c.occ-id-items.ensures (rw c.neg.ensures at c.occ-others.ensures)
    c.loop-id.id-index c.id-item.result c.args.steps.now c.loop-id.steps c.ask.new.steps c.args.limit c.loop-id.invariant (omega arith) c.in-Blocked.ensures

pub returns-in-Full : goal.returns-in-Full
returns-in-Full c =
    sought_full c.args.store.now c.args.lit c.occ-id-items.result.now c.occ-others.result.now c.occ-id-items.ensures (rw c.neg.ensures at c.occ-others.ensures)
    c.loop-id.id-index c.args.steps.now c.loop-id.steps c.ask.new.steps c.args.limit c.loop-id.invariant (omega arith) c.in-Full.ensures

pub loop-id-preserved : goal.loop-id-preserved
loop-id-preserved c =
    seeking_more c.args.store.now c.args.lit c.occ-id-items.result.now c.occ-others.result.now c.occ-id-items.ensures (rw c.neg.ensures at c.occ-others.ensures)
    c.loop-id.id-index c.id-item.result c.args.steps.now c.loop-id.steps c.ask.new.steps c.args.limit c.loop-id.invariant (omega arith) c.id-item.is c.in-Open.ensures

pub returns : goal.returns
returns c =
    sought_none c.args.store.now c.args.lit c.occ-id-items.result.now c.occ-others.result.now c.occ-id-items.ensures (rw c.neg.ensures at c.occ-others.ensures)
    c.loop-id.id-index c.args.steps.now c.loop-id.steps c.args.limit c.loop-id.invariant (omega arith)
