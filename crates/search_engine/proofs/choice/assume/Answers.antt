use Rattle.std.proofs.Common.{◌≤◌, inl, refl}
use Rattle.sat_terms.specs.Literal.{var_of}
use Rattle.sat_terms.proofs.Members.{All-has}
use Rattle.search_engine.proofs.Choices.{decides, decides_assumed, decided_next, decided_keeps, decided_passed}
use Rattle.search_engine.proofs.choice.assume.Goals as goal

pub decide-requires-clause-declared : goal.decide-requires-clause-declared
decide-requires-clause-declared g c =
    (All-has (λ k. (1 ≤ var_of k) × (var_of k ≤ c.args.state.now.trail.declared)) c.args.assumptions.now c.args.lit c.requires.stands.ready.assumed c.requires.assumed).1

pub returns-then-is_none-clause-turn : goal.returns-then-is_none-clause-turn
returns-then-is_none-clause-turn g c =
    let d = decides c.args.state.now c.args.state.now.order c.decide.new.self c.args.lit c.decide.ensures.declared c.decide.ensures.steps c.requires.stands.ready.orderly refl in
    decided_next c.args.assumptions.now _ _ c.args.lit d c.law_following.ensures.appended c.requires.stands c.law_room.ensures.steps (inl c.requires.assumed)

pub returns-then-is_none-clause-keeps : goal.returns-then-is_none-clause-keeps
returns-then-is_none-clause-keeps g c =
    let d = decides c.args.state.now c.args.state.now.order c.decide.new.self c.args.lit c.decide.ensures.declared c.decide.ensures.steps c.requires.stands.ready.orderly refl in
    decided_keeps c.args.assumptions.now _ _ c.args.lit d c.law_following.ensures.appended c.requires.stands.ready

pub returns-then-is_none-clause-passed : goal.returns-then-is_none-clause-passed
returns-then-is_none-clause-passed g c =
    let d = decides c.args.state.now c.args.state.now.order c.decide.new.self c.args.lit c.decide.ensures.declared c.decide.ensures.steps c.requires.stands.ready.orderly refl in
    decided_passed c.args.assumptions.now _ _ c.args.lit d

pub core_clausal-requires-clause-decisions : goal.core_clausal-requires-clause-decisions
core_clausal-requires-clause-decisions g c = decides_assumed c.args.assumptions.now c.args.state.now.trail.steps c.args.lit c.requires.stands.first c.requires.assumed c.requires.untrue
