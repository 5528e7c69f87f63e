use Rattle.std.proofs.Common.{rules, arith, ◌≡◌, ◌≤◌, ◌<◌, ◌+◌, ◌-◌, ◌∙◌, ◌∷◌, ◌++◌, [], sym, ap, subst, refl, length, true, false, not, Bool, ℕ, Some, None, Option, take, cond, get_or, All, Contains}
use Rattle.sat_terms.specs.Literal.{var_of}
use Rattle.user_propagator.specs.Board.{trail_value, trail_place}
use Rattle.card_propagator.specs.Values.{is_false}
use Rattle.card_propagator.proofs.Placed.{before_lt, before_ge, before_none}
use Rattle.card_propagator.proofs.clauses.is_false_before.Goals as goal

pub returns-in_default : goal.returns-in_default
returns-in_default c =
    let h : trail_place c.args.desk.now.seen (var_of c.args.lit) ≡ None = ap (trail_place c.args.desk.now.seen) (sym c.var.ensures.value) ∙ sym c.place_of.ensures ∙ c.in_default.is in
    sym (ap is_false (before_none _ c.args.lit c.args.place h))

pub returns-then-at-place : goal.returns-then-at-place
returns-then-at-place c =
    let h : trail_place c.args.desk.now.seen (var_of c.args.lit) ≡ Some c.in-Some.at = ap (trail_place c.args.desk.now.seen) (sym c.var.ensures.value) ∙ sym c.place_of.ensures ∙ c.in-Some.is in
    sym (ap is_false (before_ge _ c.args.lit _ _ h c.if-at-place.true))

pub returns-in-Some-value : goal.returns-in-Some-value
returns-in-Some-value c =
    let h : trail_place c.args.desk.now.seen (var_of c.args.lit) ≡ Some c.in-Some.at = ap (trail_place c.args.desk.now.seen) (sym c.var.ensures.value) ∙ sym c.place_of.ensures ∙ c.in-Some.is in
    sym (ap is_false (before_lt _ c.args.lit _ _ h c.if-at-place.false ∙ sym c.value.ensures ∙ c.in-Some-value.is))

pub returns-in-None : goal.returns-in-None
returns-in-None c =
    let h : trail_place c.args.desk.now.seen (var_of c.args.lit) ≡ Some c.in-Some.at = ap (trail_place c.args.desk.now.seen) (sym c.var.ensures.value) ∙ sym c.place_of.ensures ∙ c.in-Some.is in
    sym (ap is_false (before_lt _ c.args.lit _ _ h c.if-at-place.false ∙ sym c.value.ensures ∙ c.in-None.is))
