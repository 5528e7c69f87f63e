use Rattle.std.proofs.Common.{rules, arith, ◌≡◌, ◌≤◌, ◌<◌, ◌+◌, ◌-◌, ◌∙◌, ◌∷◌, ◌++◌, [], sym, ap, subst, refl, length, true, false, not, Bool, ℕ, Some, None, Option, take, cond, get_or, All, Contains}
use Rattle.user_propagator.specs.Board.{trail_value}
use Rattle.card_propagator.specs.Values.{is_false}
use Rattle.card_propagator.proofs.Placed.{pushed_behind}
use Rattle.card_propagator.proofs.clauses.add_fallen.Goals as goal

pub loop-lit-preserved : goal.loop-lit-preserved
loop-lit-preserved c = pushed_behind (λ x. is_false (trail_value (take c.args.place c.args.desk.now.seen) x)) _ _ _ _ _ _ c.loop-lit-test.true c.lit-item.is c.loop-lit.invariant c.in_ok-add_before.ensures
