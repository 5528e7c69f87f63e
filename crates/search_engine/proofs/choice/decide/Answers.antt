use Rattle.std.proofs.Common.{◌≡◌, refl, inr, ap, ◌∙◌, arith, length}
use Rattle.std.proofs.lemmas.List.{with_items_is}
use Rattle.search_engine.specs.Searching.{AllValued, IsOrderly}
use Rattle.search_engine.proofs.Orders.{orderly_picked, all_valued}
use Rattle.search_engine.proofs.Values.{shown_model, shows_same}
use Rattle.search_engine.proofs.Keeping.{keeps_same}
use Rattle.search_engine.proofs.Choices.{decides, decided_next, decided_keeps, decided_passed}
use Rattle.search_engine.proofs.choice.decide.Goals as goal

pub returns-in-Some-clause-turn : goal.returns-in-Some-clause-turn
returns-in-Some-clause-turn c =
    let core = c.args.state.now in
    let o : IsOrderly c.pick.new.self core.trail = orderly_picked core.order c.pick.new.self core.trail c.pick.ensures.same c.pick.ensures.follows c.requires.stands.ready.orderly in
    let d = decides core c.pick.new.self c.decide.new.self c.in-Some.lit c.decide.ensures.declared c.decide.ensures.steps o c.pick.ensures.same.declared in
    decided_next c.args.assumptions.now _ _ c.in-Some.lit d c.law_following.ensures.appended c.requires.stands c.law_room.ensures.steps (inr c.requires.assumed)

pub returns-in-Some-clause-keeps : goal.returns-in-Some-clause-keeps
returns-in-Some-clause-keeps c =
    let core = c.args.state.now in
    let o : IsOrderly c.pick.new.self core.trail = orderly_picked core.order c.pick.new.self core.trail c.pick.ensures.same c.pick.ensures.follows c.requires.stands.ready.orderly in
    let d = decides core c.pick.new.self c.decide.new.self c.in-Some.lit c.decide.ensures.declared c.decide.ensures.steps o c.pick.ensures.same.declared in
    decided_keeps c.args.assumptions.now _ _ c.in-Some.lit d c.law_following.ensures.appended c.requires.stands.ready

pub returns-in-Some-clause-passed : goal.returns-in-Some-clause-passed
returns-in-Some-clause-passed c =
    let core = c.args.state.now in
    let o : IsOrderly c.pick.new.self core.trail = orderly_picked core.order c.pick.new.self core.trail c.pick.ensures.same c.pick.ensures.follows c.requires.stands.ready.orderly in
    let d = decides core c.pick.new.self c.decide.new.self c.in-Some.lit c.decide.ensures.declared c.decide.ensures.steps o c.pick.ensures.same.declared in
    decided_passed c.args.assumptions.now _ _ c.in-Some.lit d

pub returns-in-None-clause-turn : goal.returns-in-None-clause-turn
returns-in-None-clause-turn c =
    let core = c.args.state.now in
    let ready = c.requires.stands.ready in
    let steps = core.trail.steps in
    let valued : AllValued core.trail.declared steps = all_valued core.order core.trail ready.orderly c.in-None.ensures.none in
    let long : length c.show.new.model ≡ length core.model.items = c.show.ensures.size ∙ ap length c.as_mut_slice.ensures.value in
    let e = with_items_is core.model c.show.new.model (omega arith) in
    let shown = shows_same _ _ steps e c.show.ensures.shown in
    record {
      model = shown_model core.store steps core.watches.attached c.args.assumptions.now core.trail.declared _ _ ready.attached ready.within c.requires.quiet valued c.law_shape.ensures.apart shown c.requires.assumed (ap length e ∙ long);
      valued = valued;
      shown = shown;
    }

pub returns-in-None-clause-keeps : goal.returns-in-None-clause-keeps
returns-in-None-clause-keeps c =
    let core = c.args.state.now in
    let ready = c.requires.stands.ready in
    let long : length c.show.new.model ≡ length core.model.items = c.show.ensures.size ∙ ap length c.as_mut_slice.ensures.value in
    let e = with_items_is core.model c.show.new.model (omega arith) in
    let o : IsOrderly c.pick.new.self core.trail = orderly_picked core.order c.pick.new.self core.trail c.pick.ensures.same c.pick.ensures.follows ready.orderly in
    keeps_same c.args.assumptions.now core _ ready refl refl refl (ap length e ∙ long) refl c.pick.ensures.same.declared o
