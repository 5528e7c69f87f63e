use Rattle.std.proofs.Common.{◌<◌, ◌≤◌, ◌∙◌, ◌+◌, ◌*◌, arith, length, map, add-one, ℕ, suc}
use Rattle.std.proofs.lemmas.List.{get_or_default}
use Rattle.std.proofs.Math.Nat.{mul-le-mul_left}
use Rattle.var_elim.specs.Testing.{lits_at}
use Rattle.var_elim.proofs.Trying.{passed_more, failed_more, square_next, square_split}
use Rattle.var_elim.proofs.test.resolve_all.Goals as goal

part : (i n q : ℕ) → i < n → i * q + q ≤ n * q
part i n q lt = let le : i + 1 ≤ n = omega arith in let m : q * (i + 1) ≤ q * n = mul-le-mul_left q le in omega (arith, m)

pub returns-in-Fails : goal.returns-in-Fails
returns-in-Fails c =
    let in' : c.loop-left.left-index < length c.args.lefts.now = omega arith in
    let e = c.left-item.is ∙ get_or_default c.args.lefts.now c.loop-left.left-index c.left-item.result 0 in' in
    failed_more c.args.work.now c.loop-left.work c.resolve_row.new.work _ _ (c.loop-left.left-index * length c.args.rights.now) (length c.args.rights.now) c.args.most c.args.rest c.loop-left.invariant _ _ (length c.args.lefts.now * length c.args.rights.now)
    (square_split c.args.store.now c.args.lit c.loop-left.left-index c.left-item.result c.args.lefts.now in' e (map (lits_at c.args.store.now) c.args.rights.now)) (part c.loop-left.left-index (length c.args.lefts.now) (length c.args.rights.now) in')
    (rw c.in-Fails.is at c.in_ok-resolve_row.ensures)

pub loop-left-preserved : goal.loop-left-preserved
loop-left-preserved c =
    let in' : c.loop-left.left-index < length c.args.lefts.now = omega arith in
    let e = c.left-item.is ∙ get_or_default c.args.lefts.now c.loop-left.left-index c.left-item.result 0 in' in
    rw add-one
    (passed_more c.args.work.now c.loop-left.work c.resolve_row.new.work _ _ (c.loop-left.left-index * length c.args.rights.now) (length c.args.rights.now) c.args.most c.args.rest c.loop-left.invariant _ (suc c.loop-left.left-index * length c.args.rights.now)
    (square_next c.args.store.now c.args.lit c.loop-left.left-index c.left-item.result c.args.lefts.now in' e (map (lits_at c.args.store.now) c.args.rights.now)) (omega arith)
    (rw c.in-Fits.is at c.in_ok-resolve_row.ensures))
