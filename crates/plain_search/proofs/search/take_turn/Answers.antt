use Rattle.std.proofs.Common.{Bool, true, subst, arith, ap, ◌∙◌, ◌∷◌}
use Rattle.sat_terms.specs.Literal.{var_of}
use Rattle.sat_terms.proofs.Literals.{var_of-pos_lit}
use Rattle.plain_search.specs.Search.{Flips}
use Rattle.plain_search.proofs.Finding.{refuted, implied, met}
use Rattle.plain_search.proofs.Turns.{turn_flip, turn_end, turn_push, forced, decided}
use Rattle.plain_search.proofs.search.take_turn.Goals as goal

pub push-requires-in-Some-clause-within : goal.push-requires-in-Some-clause-within
push-requires-in-Some-clause-within g c =
    omega (arith, ap var_of c.positive.ensures, var_of-pos_lit c.in-Some.var, c.in-Some.ensures.some.0, ap (λ a. a.vars) c.first_free.ensures.same)

pub returns-then-branch-clause-turns : goal.returns-then-branch-clause-turns
returns-then-branch-clause-turns g c =
    let P : Bool → Type 0 = λ b. Flips b c.args.now.now.steps c.backtrack.new.now.steps in
    turn_flip _ _ _ _ c.requires.justified c.requires.room (refuted _ _ c.in-Conflict.ensures) (subst P c.if-branch.true c.in_ok-backtrack-in-Conflict.ensures.flipped)

pub returns-else-branch-clause-turns : goal.returns-else-branch-clause-turns
returns-else-branch-clause-turns g c =
    let P : Bool → Type 0 = λ b. Flips b c.args.now.now.steps c.backtrack.new.now.steps in
    let none = subst P c.if-branch.false c.in_ok-backtrack-in-Conflict.ensures.flipped in
    turn_end _ c.args.now.now.vars _ c.backtrack.new.now.steps c.requires.justified (refuted _ _ c.in-Conflict.ensures) none.0

pub returns-in_ok-push-in-Forced-clause-turns : goal.returns-in_ok-push-in-Forced-clause-turns
returns-in_ok-push-in-Forced-clause-turns g c =
    turn_push _ _ _ _ _ (forced _ _ _ c.requires.justified (implied _ _ _ c.in-Forced.ensures)) c.in_ok-push-in-Forced.ensures.ok (omega (arith, c.push.ensures.vars, c.in_ok-push-in-Forced.ensures.room))

pub returns-in_ok-push-in-Some-clause-turns : goal.returns-in_ok-push-in-Some-clause-turns
returns-in_ok-push-in-Some-clause-turns g c =
    turn_push _ _ _ _ _ (decided _ _ c.positive.result c.requires.justified) (c.in_ok-push-in-Some.ensures.ok ∙ ap (λ a. record { lit = c.positive.result; decision = true } ∷ a.steps) c.first_free.ensures.same) (omega (arith, ap (λ a. a.vars) c.first_free.ensures.same, c.push-in-Some.ensures.vars, c.in_ok-push-in-Some.ensures.room))

pub returns-in-Met-clause-turns : goal.returns-in-Met-clause-turns
returns-in-Met-clause-turns g c = met _ _ _ c.requires.within c.in-Met.ensures
