use Rattle.std.proofs.Common.{◌∙◌, sym, ap, arith, ◌<◌}
use Rattle.sat_terms.specs.Literal.{var_of}
use Rattle.plain_search.specs.Marks.{positive}
use Rattle.plain_search.specs.Steps.{value_in}
use Rattle.plain_search.proofs.Values.{reads, read}
use Rattle.plain_search.proofs.assignment.Assignment.value.Goals as goal

pub returns-in-None : goal.returns-in-None
returns-in-None c =
    let within : var_of c.args.lit < c.self.inside.values.len = omega (arith, c.requires, ap (λ a. a.vars) c.self.view_is, c.self.invariant.mirrors.some) in
    sym (ap (λ a. value_in a.steps c.args.lit) (sym c.self.view_is) ∙ reads c.self.invariant.mirrors c.args.lit _ _ (c.index.ensures.value ∙ c.var.ensures.value) within c.index-2.ensures
    ∙ ap (read (positive c.args.lit)) c.in-None.is)

pub returns-in-Some : goal.returns-in-Some
returns-in-Some c =
    let within : var_of c.args.lit < c.self.inside.values.len = omega (arith, c.requires, ap (λ a. a.vars) c.self.view_is, c.self.invariant.mirrors.some) in
    rw c.is_positive.ensures (sym (ap (λ a. value_in a.steps c.args.lit) (sym c.self.view_is) ∙ reads c.self.invariant.mirrors c.args.lit _ _ (c.index.ensures.value ∙ c.var.ensures.value) within c.index-2.ensures
    ∙ ap (read (positive c.args.lit)) c.in-Some.is))
