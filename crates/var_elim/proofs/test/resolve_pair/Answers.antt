use Rattle.std.proofs.Common.{refl, ap, arith, length}
use Rattle.var_elim.proofs.Trying.{pair_clear, pair_many, pair_long}
use Rattle.var_elim.specs.Testing.{lits_at}
use Rattle.var_elim.proofs.Making.{form_clear}
use Rattle.var_elim.proofs.test.resolve_pair.Goals as goal

pub returns-then-as_slice-gt100 : goal.returns-then-as_slice-gt100
returns-then-as_slice-gt100 c =
    let long = ap length c.as_slice.ensures in
    pair_long c.args.work.now _ c.args.lit (lits_at c.args.store.now c.args.left) (lits_at c.args.store.now c.args.right) c.args.most c.args.rest refl (omega arith) c.in-Some.form
    (form_clear c.in-Some.form _ (rw (c.in-Some.is, c.get.ensures.value, c.get-2.ensures.value) at c.in_ok-resolve.ensures.some)) (rw (c.in-Some.is, c.get.ensures.value, c.get-2.ensures.value) at c.in_ok-resolve.ensures.some) (omega arith)

pub returns-in_ok-push-in-Some : goal.returns-in_ok-push-in-Some
returns-in_ok-push-in-Some c =
    let long = ap length c.as_slice.ensures in
    pair_clear c.args.work.now _ c.args.lit (lits_at c.args.store.now c.args.left) (lits_at c.args.store.now c.args.right) c.args.most c.args.rest refl (omega arith) c.in-Some.form
    (form_clear c.in-Some.form _ (rw (c.in-Some.is, c.get.ensures.value, c.get-2.ensures.value) at c.in_ok-resolve.ensures.some)) (rw (c.in-Some.is, c.get.ensures.value, c.get-2.ensures.value) at c.in_ok-resolve.ensures.some)
    c.in_ok-push-in-Some.ensures.items (omega arith) (omega arith)

pub returns-then-len-most : goal.returns-then-len-most
returns-then-len-most c =
    pair_many c.args.work.now _ c.args.lit (lits_at c.args.store.now c.args.left) (lits_at c.args.store.now c.args.right) c.args.most c.args.rest refl (omega arith) c.in-Some.form
    (form_clear c.in-Some.form _ (rw (c.in-Some.is, c.get.ensures.value, c.get-2.ensures.value) at c.in_ok-resolve.ensures.some)) (rw (c.in-Some.is, c.get.ensures.value, c.get-2.ensures.value) at c.in_ok-resolve.ensures.some) (omega arith)
