use Rattle.std.proofs.Common.{◌<◌, length, arith}
use Rattle.vivify_pass.proofs.Circling.{trying_more, trying_shorter, trying_full}
use Rattle.pass_terms.proofs.Shortening.{ruled_same}
use Rattle.vivify_pass.proofs.turn.try_some.Goals as goal

pub returns-in-Shorter-clause-tried : goal.returns-in-Shorter-clause-tried
returns-in-Shorter-clause-tried c =
    let within : c.loop-place.place < length c.args.ids.now = omega arith in
    trying_shorter c.args.kernel.now c.loop-place.kernel c.try_one.new.kernel c.loop-place.watches c.try_one.new.watches c.loop-place.trail c.try_one.new.trail c.args.ids.now c.loop-place.place c.index-ids-place.result c.in-Shorter.next c.args.steps.now c.loop-place.steps c.try_one.new.steps c.args.limit
    c.requires.firm within c.index-ids-place.is c.loop-place.invariant (rw c.in-Shorter.is at c.in_ok-try_one.ensures.turned)

pub returns-in-Full-clause-tried : goal.returns-in-Full-clause-tried
returns-in-Full-clause-tried c =
    let within : c.loop-place.place < length c.args.ids.now = omega arith in
    trying_full c.args.kernel.now c.loop-place.kernel c.try_one.new.kernel c.loop-place.watches c.loop-place.trail c.args.ids.now c.loop-place.place c.index-ids-place.result c.args.steps.now c.loop-place.steps c.try_one.new.steps c.args.limit
    c.requires.firm within c.index-ids-place.is c.loop-place.invariant (rw c.in-Full.is at c.in_ok-try_one.ensures.turned)

pub loop-place-preserved : goal.loop-place-preserved
loop-place-preserved c =
    let within : c.loop-place.place < length c.args.ids.now = omega arith in
    trying_more c.args.kernel.now c.loop-place.kernel c.try_one.new.kernel c.loop-place.watches c.try_one.new.watches c.loop-place.trail c.try_one.new.trail c.args.ids.now c.loop-place.place c.index-ids-place.result c.args.steps.now c.loop-place.steps c.try_one.new.steps c.args.limit
    c.requires.firm within c.index-ids-place.is c.loop-place.invariant (rw c.in-Same.is at c.in_ok-try_one.ensures.turned)

pub returns-clause-ruled : goal.returns-clause-ruled
returns-clause-ruled c = ruled_same c.args.kernel.now c.loop-place.kernel c.loop-place.invariant.same
