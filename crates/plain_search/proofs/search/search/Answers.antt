use Rattle.std.proofs.Common.{ℕ, ◌+◌, ◌≡◌, sym, subst, List, Bool, ◌∙◌}
use Rattle.plain_search.specs.declared.search.Turn.{Turn}
use Rattle.plain_search.specs.Search.{Turns, Agrees}
use Rattle.std.specs.Prelude.{All}
use Rattle.sat_terms.specs.Truth.{values}
use Rattle.sat_terms.specs.Answer.{Satisfies, Within}
use Rattle.plain_search.specs.Rules.{rules}
use Rattle.plain_search.proofs.RuleLemmas.{rules_within, none_of_rules, model_of_rules}
use Rattle.plain_search.proofs.Turns.{turn_falls}
use Rattle.plain_search.proofs.search.search.Goals as goal

pub loop-now-smaller : goal.loop-now-smaller
loop-now-smaller g c =
    let P : Turn → Type 0 = λ t. Turns (Satisfies (rules c.args.assumed.now (g.L.ClauseList.clauses c.args.clauses.now))) c.loop-now.now.vars c.loop-now.now.steps c.take_turn.new.now.steps t in
    let on = subst P c.in-On.is c.in_ok-take_turn.ensures.turns in
    let v : c.loop-now.now.vars ≡ c.args.vars = c.loop-now.invariant.vars in
    rw v at (turn_falls (c.loop-now.now.vars + 1) c.loop-now.now.steps c.take_turn.new.now.steps on.1 on.2)

pub take_turn-requires-clause-within : goal.take_turn-requires-clause-within
take_turn-requires-clause-within g c =
    let within = rules_within c.args.vars c.args.assumed.now (g.L.ClauseList.clauses c.args.clauses.now) c.requires.assumed_within c.requires.clauses_within in
    let P : ℕ → Type 0 = λ n. All (Within n) (rules c.args.assumed.now (g.L.ClauseList.clauses c.args.clauses.now)) in
    subst P (sym c.loop-now.invariant.vars) within

pub returns-in-Model-clause-model : goal.returns-in-Model-clause-model
returns-in-Model-clause-model g c =
    let P : Turn → Type 0 = λ t. Turns (Satisfies (rules c.args.assumed.now (g.L.ClauseList.clauses c.args.clauses.now))) c.loop-now.now.vars c.loop-now.now.steps c.take_turn.new.now.steps t in
    let m : List Bool = c.in_ok-model-in-Model.field-0.items in
    let A : ℕ → Type 0 = λ n. Agrees (values m) n c.take_turn.new.now.steps in
    let agrees : Agrees (values m) c.loop-now.now.vars c.take_turn.new.now.steps = subst A c.take_turn.ensures.vars c.in_ok-model-in-Model.ensures.agrees in
    let both = model_of_rules c.args.assumed.now (g.L.ClauseList.clauses c.args.clauses.now) (values m) (subst P c.in-Model.is c.in_ok-take_turn.ensures.turns (values m) agrees) in
    record { size = c.in_ok-model-in-Model.ensures.length ∙ c.take_turn.ensures.vars ∙ c.loop-now.invariant.vars; holds = both.0; assumed = both.1 }

pub returns-in-NoModel-clause-none : goal.returns-in-NoModel-clause-none
returns-in-NoModel-clause-none g c =
    let P : Turn → Type 0 = λ t. Turns (Satisfies (rules c.args.assumed.now (g.L.ClauseList.clauses c.args.clauses.now))) c.loop-now.now.vars c.loop-now.now.steps c.take_turn.new.now.steps t in
    none_of_rules _ _ (subst P c.in-NoModel.is c.in_ok-take_turn.ensures.turns)
