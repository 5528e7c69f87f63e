use Rattle.std.proofs.Common.{rules, arith, ◌≡◌, ◌≤◌, ◌<◌, ◌+◌, ◌-◌, ◌∙◌, ◌∷◌, ◌++◌, [], sym, ap, subst, refl, length, true, false, not, Bool, ℕ, Some, None, Option, take, cond, get_or, All, Contains}
use Rattle.std.specs.List.{list_all}
use Rattle.std.proofs.lemmas.List.{take_more}
use Rattle.std.proofs.lemmas.List.Folds.{list_all-append}
use Rattle.std.proofs.lemmas.Bool.{and_from}
use Rattle.sat_model.specs.Constraint.{constraint_true}
use Rattle.card_propagator.specs.Counting.{rule, no_rule}
use Rattle.sat_terms.specs.Truth.{values}
use Rattle.card_propagator.specs.Cards.{are_kept}
use Rattle.card_propagator.proofs.Lawful.{kept_more}
use Rattle.card_propagator.proofs.clauses.first_unkept.Goals as goal

pub loop-k-preserved : goal.loop-k-preserved
loop-k-preserved c =
    let lt : c.loop-k.k < length c.args.counter.now.rules = omega (arith, c.len-k-end.ensures, c.loop-k-test.true) in
    kept_more _ _ _ lt c.loop-k.invariant (ap (constraint_true (values c.args.model.now)) (sym c.rule.ensures) ∙ sym c.constraint_true.ensures ∙ c.if-not-constraint_true.false)

pub returns-then-not-constraint_true-clause-unkept : goal.returns-then-not-constraint_true-clause-unkept
returns-then-not-constraint_true-clause-unkept c = ap (constraint_true (values c.args.model.now)) (sym c.rule.ensures) ∙ sym c.constraint_true.ensures ∙ c.if-not-constraint_true.true
