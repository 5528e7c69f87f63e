use Rattle.std.proofs.Common.{◌≡◌, length, arith}
use Rattle.sat_terms.specs.Literal.{pos_lit, neg_lit}
use Rattle.rule_kernel.proofs.Absent.{none_at, candidate_absent}
use Rattle.rule_kernel.proofs.tests.settle_absent_var.Goals as goal

pub settle_var-requires : goal.settle_var-requires
settle_var-requires c =
    let p : length c.occ-positive.result.now ≡ 0 = omega arith in
    let n : length c.occ-negative.result.now ≡ 0 = omega arith in
    candidate_absent c.args.kernel.now.store c.args.var
    (none_at c.args.kernel.now.store (pos_lit c.args.var) c.occ-positive.result.now (rw (c.store.ensures, c.positive.ensures) at c.occ-positive.ensures) p)
    (none_at c.args.kernel.now.store (neg_lit c.args.var) c.occ-negative.result.now (rw (c.store-2.ensures, c.negative.ensures) at c.occ-negative.ensures) n)
