use Rattle.search_engine.proofs.Looping.{propagates, ok_more, ok_always, propagated_stands, propagated_passed, propagated_turn, propagated_keeps}
use Rattle.search_engine.proofs.search.take_turn.Goals as goal

pub learn_from-requires-clause-stands : goal.learn_from-requires-clause-stands
learn_from-requires-clause-stands g c =
    let e = c.propagate.ensures in
    let p = propagates c.args.state.now c.propagate.new.self c.propagate.new.trail e.attached e.declared e.follows e.grown in
    propagated_stands c.args.assumptions.now c.args.state.now _ p c.requires.stands

pub choose-requires-clause-stands : goal.choose-requires-clause-stands
choose-requires-clause-stands g c =
    let e = c.propagate.ensures in
    let p = propagates c.args.state.now c.propagate.new.self c.propagate.new.trail e.attached e.declared e.follows e.grown in
    propagated_stands c.args.assumptions.now c.args.state.now _ p c.requires.stands

pub choose-requires-clause-passed : goal.choose-requires-clause-passed
choose-requires-clause-passed g c =
    let e = c.propagate.ensures in
    let p = propagates c.args.state.now c.propagate.new.self c.propagate.new.trail e.attached e.declared e.follows e.grown in
    propagated_passed c.args.assumptions.now c.args.state.now _ p c.args.cursor.now c.requires.passed

pub returns-in-Some-clause-turn : goal.returns-in-Some-clause-turn
returns-in-Some-clause-turn g c =
    let e = c.propagate.ensures in
    let p = propagates c.args.state.now c.propagate.new.self c.propagate.new.trail e.attached e.declared e.follows e.grown in
    ok_more c.learn_from.result _ _ (propagated_turn c.args.assumptions.now c.args.state.now _ c.learn_from.new.state p c.requires.stands.ready) c.learn_from.ensures.turn

pub returns-in-Some-clause-passed : goal.returns-in-Some-clause-passed
returns-in-Some-clause-passed g c = ok_always c.learn_from.result _ (λ turn. c.start.ensures c.args.assumptions.now c.learn_from.new.state)

pub returns-in-None-clause-turn : goal.returns-in-None-clause-turn
returns-in-None-clause-turn g c =
    let e = c.propagate.ensures in
    let p = propagates c.args.state.now c.propagate.new.self c.propagate.new.trail e.attached e.declared e.follows e.grown in
    ok_more c.choose.result _ _ (propagated_turn c.args.assumptions.now c.args.state.now _ c.choose.new.state p c.requires.stands.ready) c.choose.ensures.turn

pub returns-in_err-conflict-clause-keeps : goal.returns-in_err-conflict-clause-keeps
returns-in_err-conflict-clause-keeps g c =
    let e = c.propagate.ensures in
    let p = propagates c.args.state.now c.propagate.new.self c.propagate.new.trail e.attached e.declared e.follows e.grown in
    propagated_keeps _ _ _ p c.requires.stands.ready
