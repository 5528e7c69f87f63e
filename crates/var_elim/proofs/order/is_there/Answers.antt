use Rattle.std.proofs.Common.{◌∙◌, sym, ap, arith}
use Rattle.sat_terms.proofs.Literals.{var_of-pos_lit}
use Rattle.sat_terms.specs.Literal.{var_of}
use Rattle.var_elim.proofs.Choosing.{there_yes, there_no}
use Rattle.var_elim.proofs.order.is_there.Goals as goal

pub returns-then-positive-gt0 : goal.returns-then-positive-gt0
returns-then-positive-gt0 c = sym (there_yes c.args.store.now c.occ-positive.result.now c.positive.result c.args.var c.occ-positive.ensures (omega arith) (ap var_of c.positive.ensures ∙ var_of-pos_lit c.args.var))

pub returns : goal.returns
returns c =
    there_no c.args.store.now c.occ-positive.result.now c.occ-negative.result.now c.args.var (rw c.positive.ensures at c.occ-positive.ensures) (rw c.negative.ensures at c.occ-negative.ensures) (omega arith)
