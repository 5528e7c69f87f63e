use Rattle.std.proofs.Common.{◌≤◌, length, ◌∙◌, arith}
use Rattle.firm_terms.proofs.Signing.{signing_code, signed}
use Rattle.rule_kernel.proofs.signature.signature_of.Goals as goal

pub loop-lit-preserved : goal.loop-lit-preserved
loop-lit-preserved c = signing_code c.args.lits.now c.loop-lit.lit-index c.lit-item.result c.index-place.result c.loop-lit.bits c.loop-lit-test.true c.lit-item.is (c.index-place.ensures.value ∙ c.var.ensures.value) c.loop-lit.invariant

pub returns : goal.returns
returns c =
    let past : length c.args.lits.now ≤ c.loop-lit.lit-index = omega arith in
    let upto : c.loop-lit.lit-index ≤ length c.args.lits.now = omega arith in
    signed c.args.lits.now c.loop-lit.lit-index c.loop-lit.bits past upto c.loop-lit.invariant
