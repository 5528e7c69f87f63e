use Rattle.std.proofs.Common.{◌∙◌, ap, arith, ◌<◌, ◌≤◌}
use Rattle.sat_terms.specs.Literal.{var_of}
use Rattle.plain_search.specs.Steps.{value_in}
use Rattle.plain_search.proofs.Values.{full_push, pushed, steps_fit}
use Rattle.plain_search.proofs.assignment.Assignment.push.Goals as goal

pub invariant_of-self-2 : goal.invariant_of-self-2
invariant_of-self-2 c =
    let within : var_of c.args.lit < c.self.inside.values.len = omega (arith, c.requires.within, ap (λ a. a.vars) c.self.view_is, c.self.invariant.mirrors.some) in
    let positive : 1 ≤ var_of c.args.lit = c.var.ensures.range.0 in
    record {
      mirrors = pushed _ c.self.invariant.mirrors _ _ _ _ c.in_ok-push.ensures.items (c.index-at.ensures.value ∙ c.var.ensures.value) c.is_positive-positive.ensures positive
          (ap (λ a. value_in a.steps c.args.lit) c.self.view_is ∙ c.requires.free) within;
      full = full_push c.self.inside.values.items c.self.inside.low c.index-at.result _ c.self.invariant.full (omega (arith, within, c.index-at.ensures.value, c.var.ensures.value));
      from_one = c.self.invariant.from_one;
    }

pub returns-clause-room : goal.returns-clause-room
returns-clause-room c =
    let some = c.self.invariant.mirrors.some in
    omega (arith, steps_fit _ _ (invariant_of-self-2 c).mirrors.fresh)
