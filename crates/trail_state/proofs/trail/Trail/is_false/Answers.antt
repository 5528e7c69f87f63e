use Rattle.std.proofs.Common.{◌∙◌, ap, get_or, arith, None}
use Rattle.std.proofs.lemmas.List.{get_or_default}
use Rattle.trail_state.specs.Mark.{says_false}
use Rattle.trail_state.proofs.Values.{value_false, var_positive}
use Rattle.trail_state.proofs.trail.Trail.is_false.Goals as goal

pub index-requires : goal.index-requires
index-requires c =
    let code = c.code.ensures.value in
    let wide = c.self.invariant.1.wide c.args.lit (var_positive c.args.lit (omega (arith, c.code.ensures.range.0))) (rw (← c.self.view_is) at c.requires) in
    omega (arith, wide, code)

pub returns : goal.returns
returns c =
    let code = c.code.ensures.value in
    let wide = c.self.invariant.1.wide c.args.lit (var_positive c.args.lit (omega (arith, c.code.ensures.range.0))) (rw (← c.self.view_is) at c.requires) in
    let read = c.index.ensures ∙ get_or_default c.self.inside.values.items c.code.result _ None (omega (arith, wide, code)) ∙ ap (λ l. get_or c.self.inside.values.items l None) code ∙ c.self.invariant.1.valued c.args.lit in
    rw (← c.self.view_is) (c.is_false.ensures ∙ ap says_false read ∙ value_false _ c.args.lit c.self.invariant.0.shape.apart)
