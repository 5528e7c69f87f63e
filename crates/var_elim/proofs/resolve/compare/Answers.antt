use Rattle.std.proofs.Common.{◌≡◌, ◌∙◌, sym, arith}
use Rattle.std.proofs.lemmas.Bool.{eqb-true, eqb-false}
use Rattle.sat_terms.specs.Literal.{var_of}
use Rattle.var_elim.proofs.Merging.{comes_first, come_opposite, come_clash}
use Rattle.var_elim.proofs.resolve.compare.Goals as goal

pub returns-then-low-high : goal.returns-then-low-high
returns-then-low-high c =
    let low : c.index-low.result ≡ var_of c.index-left-at.result = c.index-low.ensures.value ∙ c.var.ensures.value in
    let high : c.index-high.result ≡ var_of c.index-right-to.result = c.index-high.ensures.value ∙ c.var-2.ensures.value in
    comes_first c.args.left.now c.args.right.now c.args.at c.args.to c.index-left-at.result c.index-right-to.result (omega arith) (omega arith) c.index-left-at.is c.index-right-to.is c.requires.right (omega arith)

pub returns-then-high-low : goal.returns-then-high-low
returns-then-high-low c =
    let low : c.index-low.result ≡ var_of c.index-left-at.result = c.index-low.ensures.value ∙ c.var.ensures.value in
    let high : c.index-high.result ≡ var_of c.index-right-to.result = c.index-high.ensures.value ∙ c.var-2.ensures.value in
    comes_first c.args.right.now c.args.left.now c.args.to c.args.at c.index-right-to.result c.index-left-at.result (omega arith) (omega arith) c.index-right-to.is c.index-left-at.is c.requires.left (omega arith)

pub returns-then-eq-2 : goal.returns-then-eq-2
returns-then-eq-2 c =
    let low : c.index-low.result ≡ var_of c.index-left-at.result = c.index-low.ensures.value ∙ c.var.ensures.value in
    let high : c.index-high.result ≡ var_of c.index-right-to.result = c.index-high.ensures.value ∙ c.var-2.ensures.value in
    come_opposite c.args.left.now c.args.right.now c.args.at c.args.to c.index-left-at.result c.index-right-to.result (omega arith) (omega arith) c.index-left-at.is c.index-right-to.is c.args.lit (omega arith)
    (eqb-false c.index-left-at.result c.index-right-to.result (sym c.if-eq.ensures)) (eqb-true c.index-left-at.result c.args.lit (sym c.if-eq-2.ensures))

pub returns : goal.returns
returns c =
    let low : c.index-low.result ≡ var_of c.index-left-at.result = c.index-low.ensures.value ∙ c.var.ensures.value in
    let high : c.index-high.result ≡ var_of c.index-right-to.result = c.index-high.ensures.value ∙ c.var-2.ensures.value in
    come_clash c.args.left.now c.args.right.now c.args.at c.args.to c.index-left-at.result c.index-right-to.result (omega arith) (omega arith) c.index-left-at.is c.index-right-to.is c.args.lit (omega arith)
    (eqb-false c.index-left-at.result c.index-right-to.result (sym c.if-eq.ensures)) (eqb-false c.index-left-at.result c.args.lit (sym c.if-eq-2.ensures))
