use Rattle.std.proofs.Common.{◌<◌, ◌∙◌, arith, length}
use Rattle.std.proofs.lemmas.List.{get_or_default}
use Rattle.var_elim.specs.Testing.{lits_at}
use Rattle.var_elim.proofs.Trying.{failed_more, row_split}
use Rattle.var_elim.proofs.test.resolve_row.Goals as goal

pub returns-in-Fails : goal.returns-in-Fails
returns-in-Fails c =
    let in' : c.loop-right.right-index < length c.args.rights.now = omega arith in
    let e = c.right-item.is ∙ get_or_default c.args.rights.now c.loop-right.right-index c.right-item.result 0 in' in
    failed_more c.args.work.now c.loop-right.work c.resolve_pair.new.work _ _ c.loop-right.right-index 1 c.args.most c.args.rest c.loop-right.invariant _ _ (length c.args.rights.now)
    (row_split c.args.store.now c.args.lit c.loop-right.right-index c.right-item.result c.args.rights.now in' e (lits_at c.args.store.now c.args.left)) (omega arith) (rw c.in-Fails.is at c.in_ok-resolve_pair.ensures)
