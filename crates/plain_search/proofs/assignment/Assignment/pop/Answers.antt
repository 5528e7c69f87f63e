use Rattle.std.proofs.Common.{◌∙◌, arith, ◌≤◌}
use Rattle.sat_terms.specs.Literal.{var_of}
use Rattle.plain_search.proofs.Values.{popped, was_free, full_pop}
use Rattle.plain_search.proofs.assignment.Assignment.pop.Goals as goal

pub invariant_of-self-2 : goal.invariant_of-self-2
invariant_of-self-2 c =
    let positive : 1 ≤ var_of c.in_ok-step.step.lit = c.var.ensures.range.0 in
    record {
      mirrors = popped _ c.self.invariant.mirrors _ _ _ c.in_ok-step.ensures.items (c.index-at.ensures.value ∙ c.var.ensures.value) positive;
      full = rw c.min-self-inside.ensures (full_pop c.self.inside.values.items c.self.inside.low c.index-at.result c.self.invariant.full);
      from_one = omega (arith, c.min-self-inside.ensures, c.self.invariant.from_one, c.index-at.ensures.value, c.var.ensures.value, positive);
    }

pub returns-clause-free : goal.returns-clause-free
returns-clause-free c = was_free _ c.self.invariant.mirrors _ _ c.in_ok-step.ensures.items
