use Rattle.std.proofs.Common.{◌≡◌, ◌≤◌, true, length, sym, ◌∙◌, arith}
use Rattle.trail_state.specs.Trail.{true_on}
use Rattle.vivify_pass.proofs.Trailing.{true_value}
use Rattle.vivify_pass.proofs.Holding.{held_twice, held_all}
use Rattle.vivify_pass.proofs.held.held_lit.Goals as goal

pub returns-then-is_some : goal.returns-then-is_some
returns-then-is_some c =
    let on : true_on c.args.trail.now.steps c.lit-item.result ≡ true = true_value c.args.trail.now.steps c.lit-item.result (sym c.value.ensures ∙ (rw c.if-value.true at c.in-Some.is)) in
    held_twice c.args.trail.now.steps c.args.trail.now.level c.args.lits.now c.loop-lit.lit-index c.lit-item.result c.loop-lit.found c.law_shape.ensures c.requires c.loop-lit-test.true c.lit-item.is on c.if-is_some.ensures c.loop-lit.invariant

pub returns : goal.returns
returns c = let past : length c.args.lits.now ≤ c.loop-lit.lit-index = omega arith in held_all c.args.trail.now.steps c.args.trail.now.level c.args.lits.now c.loop-lit.lit-index c.loop-lit.found c.law_shape.ensures past c.loop-lit.invariant
