use Rattle.plain_search.proofs.Finding.{value_in-neg_none}
use Rattle.std.proofs.Common.{◌≡◌, ◌∙◌, ap}
use Rattle.std.proofs.Common.{arith}
use Rattle.sat_terms.specs.Literal.{var_of}
use Rattle.sat_terms.proofs.Literals.{var_of-neg}
use Rattle.plain_search.specs.Steps.{value_in}
use Rattle.plain_search.proofs.search.backtrack.Goals as goal

pub push-requires-clause-free : goal.push-requires-clause-free
push-requires-clause-free c = ap (value_in c.pop.new.self.steps) c.neg.ensures ∙ value_in-neg_none c.pop.new.self.steps c.in-Some.step.lit c.in-Some.ensures.free.1

pub push-requires-clause-within : goal.push-requires-clause-within
push-requires-clause-within c =
    let same : var_of c.neg.result ≡ var_of c.in-Some.step.lit = ap var_of c.neg.ensures ∙ var_of-neg c.in-Some.step.lit in
    omega (arith, same, c.in-Some.ensures.free.0)
