use Rattle.pass_terms.specs.Ruled.Ruled.{none}
use Rattle.pass_terms.proofs.Ruling.{ruled_trans}
use Rattle.pass_terms.specs.Ruled.{always}
use Rattle.vivify_pass.proofs.Circling.{circling_none, circling_more, circling_full, circling_end}
use Rattle.vivify_pass.proofs.turn.rounds.Goals as goal

pub returns-in_err-ids-clause-ruled : goal.returns-in_err-ids-clause-ruled
returns-in_err-ids-clause-ruled c = none

pub loop-ids-init : goal.loop-ids-init
loop-ids-init c = circling_none c.args.kernel.now c.args.watches.now c.args.trail.now _ c.args.limit c.requires (rw c.in_ok-ids.ensures.items (rw c.store.ensures at c.firm_ids.ensures))

pub returns-in_err-try_round-clause-ruled : goal.returns-in_err-try_round-clause-ruled
returns-in_err-try_round-clause-ruled c = ruled_trans always c.args.kernel.now c.loop-ids.kernel c.try_round.new.kernel c.loop-ids.invariant.ruled c.try_round.ensures.ruled

pub returns-in-Unchanged-clause-ended : goal.returns-in-Unchanged-clause-ended
returns-in-Unchanged-clause-ended c =
    circling_end c.args.kernel.now c.loop-ids.kernel c.try_round.new.kernel c.loop-ids.watches c.try_round.new.watches c.loop-ids.trail c.try_round.new.trail c.loop-ids.ids.items c.loop-ids.start c.loop-ids.steps c.try_round.new.steps c.args.limit
    c.loop-ids.invariant (rw (c.in-Unchanged.is, c.as_slice.ensures.value) at c.in_ok-try_round.ensures.tried)

pub returns-in-Stopped-clause-ended : goal.returns-in-Stopped-clause-ended
returns-in-Stopped-clause-ended c =
    circling_full c.args.kernel.now c.loop-ids.kernel c.try_round.new.kernel c.loop-ids.watches c.loop-ids.trail c.loop-ids.ids.items c.loop-ids.start c.loop-ids.steps c.try_round.new.steps c.args.limit
    c.loop-ids.invariant (rw (c.in-Stopped.is, c.as_slice.ensures.value) at c.in_ok-try_round.ensures.tried)

pub loop-ids-preserved : goal.loop-ids-preserved
loop-ids-preserved c =
    circling_more c.args.kernel.now c.loop-ids.kernel c.try_round.new.kernel c.loop-ids.watches c.try_round.new.watches c.loop-ids.trail c.try_round.new.trail c.loop-ids.ids.items c.loop-ids.start c.in-Changed.place c.in-Changed.next c.loop-ids.steps c.try_round.new.steps c.args.limit
    c.loop-ids.invariant c.try_round.ensures.ruled (rw (c.in-Changed.is, c.as_slice.ensures.value) at c.in_ok-try_round.ensures.tried)
