use Rattle.std.proofs.Common.{◌∙◌, refl, sym, []}
use Rattle.var_elim.proofs.Occurring.{all_firm, all_hold}
use Rattle.var_elim.proofs.Making.{judged_early, judged}
use Rattle.var_elim.proofs.test.test_var.Goals as goal

pub is_possible-requires-clause-left : goal.is_possible-requires-clause-left
is_possible-requires-clause-left c = all_firm c.args.store.now c.args.lit c.occ-lefts.result.now c.occ-lefts.ensures

pub is_possible-requires-clause-right : goal.is_possible-requires-clause-right
is_possible-requires-clause-right c = all_firm c.args.store.now c.neg.result c.occ-rights.result.now c.occ-rights.ensures

pub resolve_all-requires-clause-lefts : goal.resolve_all-requires-clause-lefts
resolve_all-requires-clause-lefts c = all_hold c.args.store.now c.args.lit c.occ-lefts.result.now c.occ-lefts.ensures

pub resolve_all-requires-clause-rights : goal.resolve_all-requires-clause-rights
resolve_all-requires-clause-rights c = rw c.neg.ensures at (all_hold c.args.store.now c.neg.result c.occ-rights.result.now c.occ-rights.ensures)

pub returns-then-not-is_possible : goal.returns-then-not-is_possible
returns-then-not-is_possible c =
    judged_early c.args.store.now c.args.lit c.occ-lefts.result.now c.occ-rights.result.now c.occ-lefts.ensures (rw c.neg.ensures at c.occ-rights.ensures) c.args.rest []
    (sym c.is_possible.ensures ∙ c.if-not-is_possible.true)

pub returns : goal.returns
returns c =
    judged c.args.store.now c.args.lit c.occ-lefts.result.now c.occ-rights.result.now c.occ-lefts.ensures (rw c.neg.ensures at c.occ-rights.ensures) c.law_normal.ensures c.args.rest _ c.resolve_all.new.work refl
    c.new.ensures.items (sym c.is_possible.ensures ∙ c.if-not-is_possible.false) _ c.in_ok-outcome.ensures
