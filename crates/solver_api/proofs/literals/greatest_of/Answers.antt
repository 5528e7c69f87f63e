use Rattle.std.proofs.Common.{arith, ap, sym, ◌≤◌}
use Rattle.std.proofs.lemmas.List.{drop_all, take_all, get_or_read}
use Rattle.std.proofs.lemmas.List.Elements.{All-more}
use Rattle.sat_terms.specs.Literal.{var_of}
use Rattle.sat_terms.specs.Answer.{greatest_var}
use Rattle.solver_api.proofs.Lists.{greatest_within, greatest_var-drop}
use Rattle.solver_api.proofs.literals.greatest_of.Goals as goal

pub loop-lit-preserved : goal.loop-lit-preserved
loop-lit-preserved c = record {
  same = omega (arith, c.loop-lit.invariant.same, greatest_var-drop c.args.lits.now c.loop-lit.lit-index c.lit-item.result c.loop-lit-test.true c.lit-item.is, c.max-greatest.ensures, c.index.ensures.value, c.var.ensures.value);
  few = omega (arith, c.loop-lit.invariant.few, c.max-greatest.ensures, c.index.ensures.range.1);
  positive = All-more (λ x. 1 ≤ var_of x) c.args.lits.now c.loop-lit.lit-index 0 c.loop-lit-test.true c.loop-lit.invariant.positive
      (rw (sym (get_or_read c.args.lits.now c.loop-lit.lit-index c.lit-item.result c.loop-lit-test.true c.lit-item.is 0)) c.var.ensures.range.0);
}

pub returns-clause-within : goal.returns-clause-within
returns-clause-within c =
    let e = drop_all c.loop-lit.lit-index c.args.lits.now c.loop-lit-test.false in
    let high : greatest_var c.args.lits.now ≤ c.loop-lit.greatest = omega (arith, c.loop-lit.invariant.same, ap greatest_var e) in
    greatest_within _ _ high (rw (sym (take_all c.loop-lit.lit-index c.args.lits.now c.loop-lit-test.false)) c.loop-lit.invariant.positive)
