use Rattle.std.proofs.Common.{◌≡◌, ap, ◌∙◌, Some, None}
use Rattle.std.specs.Prelude.{nat_lt}
use Rattle.trail_state.specs.Trail.{step, level_on}
use Rattle.sat_terms.specs.Literal.{var_of}
use Rattle.decide_order.proofs.Backs.{level_here}
use Rattle.decide_order.proofs.order.stands_above.Goals as goal

pub returns-in-Some : goal.returns-in-Some
returns-in-Some c =
    let read : Some c.in-Some.own ≡ level_on c.args.trail.now.steps (var_of c.args.lit) = rw c.var.ensures.value at c.in-Some.ensures in
    let e : Some c.in-Some.own ≡ Some (step c.args.trail.now.steps c.args.at).level = read ∙ level_here c.args.trail.now.steps c.args.at c.args.lit c.law_shape.ensures.apart c.requires.within c.requires.here in
    let e' : c.in-Some.own ≡ (step c.args.trail.now.steps c.args.at).level = cc in
    ap (λ n. nat_lt c.args.level n) e'

pub returns-in-None : goal.returns-in-None
returns-in-None c =
    let read : None ≡ level_on c.args.trail.now.steps (var_of c.args.lit) = rw c.var.ensures.value at c.in-None.ensures in
    let e : None ≡ Some (step c.args.trail.now.steps c.args.at).level = read ∙ level_here c.args.trail.now.steps c.args.at c.args.lit c.law_shape.ensures.apart c.requires.within c.requires.here in
    cc
