use Rattle.std.proofs.Common.{◌≡◌, ◌∙◌, ap, arith, length}
use Rattle.std.specs.Prelude.{count_by}
use Rattle.sat_terms.specs.Truth.{values, lit_true}
use Rattle.solver_api.specs.Given.{part_true}
use Rattle.solver_api.proofs.RecheckLemmas.{all_counted}
use Rattle.solver_api.proofs.solver.Solver.recheck.Goals as goal

pub returns-clause-all : goal.returns-clause-all
returns-clause-all c =
    let m = values c.in_ok-model.model.now in
    let good = c.in_ok-model.ensures.good in
    let parts : c.true_parts-parts.result ≡ length c.args.self.now.given =
    c.true_parts-parts.ensures ∙ ap (count_by (part_true m)) (c.as_slice.ensures ∙ c.given.ensures) ∙ all_counted (part_true m) c.args.self.now.given good.holds in
    let lits : c.true_lits-lits.result ≡ length c.args.self.now.queried =
    c.true_lits-lits.ensures ∙ ap (count_by (lit_true m)) c.queried.ensures ∙ all_counted (lit_true m) c.args.self.now.queried good.assumed in
    omega (arith, parts, lits)
