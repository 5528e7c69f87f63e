use Rattle.std.proofs.Common.{refl}
use Rattle.vivify_pass.proofs.Circling.{rest_of, round_on, round_first, round_stopped, if_ok_map}
use Rattle.vivify_pass.proofs.turn.try_round.Goals as goal

pub returns-in-Unchanged-clause-tried : goal.returns-in-Unchanged-clause-tried
returns-in-Unchanged-clause-tried c =
    if_ok_map c.try_some-in-Unchanged.result _ _ c.try_some-in-Unchanged.ensures.tried
    (λ round tried. round_on c.args.kernel.now c.try_some.new.kernel _ c.try_some.new.watches _ c.try_some.new.trail _ c.args.ids.now _ _ c.args.start c.args.steps.now c.try_some.new.steps _ c.args.limit
    c.requires.within (rest_of c.args.ids.now c.args.start) refl (rw c.in-Unchanged.is at c.in_ok-try_some.ensures.tried) round tried)

pub returns-in-Changed-clause-tried : goal.returns-in-Changed-clause-tried
returns-in-Changed-clause-tried c =
    round_first c.args.kernel.now c.try_some.new.kernel c.try_some.new.watches c.try_some.new.trail c.args.ids.now _ c.args.start c.in-Changed.place c.in-Changed.next c.args.steps.now c.try_some.new.steps c.args.limit (rest_of c.args.ids.now c.args.start)
    (rw c.in-Changed.is at c.in_ok-try_some.ensures.tried)

pub returns-in-Stopped-clause-tried : goal.returns-in-Stopped-clause-tried
returns-in-Stopped-clause-tried c =
    round_stopped c.args.kernel.now c.try_some.new.kernel c.args.ids.now _ c.args.start c.args.steps.now c.try_some.new.steps c.args.limit (rest_of c.args.ids.now c.args.start) (rw c.in-Stopped.is at c.in_ok-try_some.ensures.tried)
