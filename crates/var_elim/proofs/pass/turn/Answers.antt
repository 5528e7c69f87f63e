use Rattle.std.proofs.Common.{◌≤◌, ◌∙◌, ◌-◌, ◌+◌, sym, ap, ℕ}
use Rattle.firm_terms.specs.Firm.{firm}
use Rattle.pass_terms.specs.Ruled.Ruled.{none}
use Rattle.sat_terms.proofs.Literals.{var_of-pos_lit}
use Rattle.var_elim.specs.Eliminating.{all_but}
use Rattle.var_elim.proofs.Choosing.{candidate_none, candidate_is}
use Rattle.var_elim.proofs.Passing.{ruled_unmarked, ruled_turned, went_gone}
use Rattle.var_elim.proofs.pass.turn.Goals as goal

pub returns-then-steps-limit-clause-ruled : goal.returns-then-steps-limit-clause-ruled
returns-then-steps-limit-clause-ruled c = none

pub returns-in_err-trial-clause-ruled : goal.returns-in_err-trial-clause-ruled
returns-in_err-trial-clause-ruled c = none

pub returns-in-Spent-clause-ruled : goal.returns-in-Spent-clause-ruled
returns-in-Spent-clause-ruled c = none

pub settle_var-requires : goal.settle_var-requires
settle_var-requires c =
    let t = rw (c.in-Fails.is, c.store.ensures, c.positive-lit.ensures) at c.in_ok-trial.ensures in
    sym (candidate_is (firm c.args.kernel.now.store) c.args.var) ∙ t.0

pub returns-in-Fails-clause-ruled : goal.returns-in-Fails-clause-ruled
returns-in-Fails-clause-ruled c = ruled_unmarked (all_but c.args.var) c.args.kernel.now c.settle_var.new.self c.settle_var.ensures.rest

pub returns-in_err-eliminate-in-Fits-clause-ruled : goal.returns-in_err-eliminate-in-Fits-clause-ruled
returns-in_err-eliminate-in-Fits-clause-ruled c = rw (c.positive-lit.ensures, var_of-pos_lit c.args.var) at c.eliminate.ensures.ruled

pub settle_var-requires-in-Fits : goal.settle_var-requires-in-Fits
settle_var-requires-in-Fits c = candidate_none (firm c.eliminate.new.kernel.store) c.args.var (rw (c.positive-lit.ensures, var_of-pos_lit c.args.var) at c.in_ok-eliminate-in-Fits.ensures.gone)

pub returns-clause-ruled : goal.returns-clause-ruled
returns-clause-ruled c =
    ruled_turned (all_but c.args.var) c.args.kernel.now c.eliminate.new.kernel c.settle_var-in-Fits.new.self (rw (c.positive-lit.ensures, var_of-pos_lit c.args.var) at c.eliminate.ensures.ruled) c.settle_var-in-Fits.ensures.rest

pub returns-clause-turned : goal.returns-clause-turned
returns-clause-turned c =
    let t = rw (c.in-Fits.is, c.store.ensures) at c.in_ok-trial.ensures in
    let few : c.in_ok-trial.trial.pairs ≤ 400 = t.2 in
    let within : c.in_ok-trial.trial.pairs ≤ c.args.limit - c.args.steps.now = t.3 in
    went_gone c.args.kernel.now c.eliminate.new.kernel c.settle_var-in-Fits.new.self c.args.var c.args.steps.now _ c.in_ok-trial.trial.pairs c.args.limit (ap (λ (z : ℕ). c.args.steps.now + z) c.max.ensures) few within c.requires c.if-steps-limit.false
    c.eliminate.ensures.marks (rw (c.positive-lit.ensures, var_of-pos_lit c.args.var) at c.in_ok-eliminate-in-Fits.ensures.gone) c.settle_var-in-Fits.ensures.rest c.settle_var-in-Fits.ensures.vars
