use Rattle.std.proofs.Common.{◌-◌, sym, ◌∙◌, arith}
use Rattle.taint_restore.proofs.Walking.{Without-needed, Clean-unchosen}
use Rattle.taint_restore.proofs.Scanning.{flag_at}
use Rattle.taint_restore.proofs.Restoring.{restoring_none, chained_so_far, restore_clean, restore_step, stay_step, restored_all, seen, none_needed, room_all, room_taken, room_kept, on_err}
use Rattle.taint_restore.proofs.restore.restore_listed.Goals as goal

pub returns-then-is_clean-clause-needed : goal.returns-then-is_clean-clause-needed
returns-then-is_clean-clause-needed c = none_needed _ _ (c.is_clean.ensures.0 c.if-is_clean.true)

pub returns-then-is_clean-clause-restored : goal.returns-then-is_clean-clause-restored
returns-then-is_clean-clause-restored c = (restoring_none c.args.lits.now c.args.kernel.now _ c.clear.ensures.items).restored

pub returns-in_err-chosen-clause-restored : goal.returns-in_err-chosen-clause-restored
returns-in_err-chosen-clause-restored c = (restoring_none c.args.lits.now c.args.kernel.now _ c.clear.ensures.items).restored

pub returns-in_err-chosen-clause-partial : goal.returns-in_err-chosen-clause-partial
returns-in_err-chosen-clause-partial c =
    on_err c.from_residual.result (seen _ _ _ _ _ (restoring_none c.args.lits.now c.args.kernel.now _ c.clear.ensures.items)).partial

pub returns-in_err-reserve-clause-restored : goal.returns-in_err-reserve-clause-restored
returns-in_err-reserve-clause-restored c =
    (restoring_none c.args.lits.now c.args.kernel.now _ (c.reserve.ensures.items ∙ c.clear.ensures.items)).restored

pub returns-in_err-reserve-clause-partial : goal.returns-in_err-reserve-clause-partial
returns-in_err-reserve-clause-partial c =
    on_err c.from_residual-in_err-reserve.result (seen _ _ _ _ _ (restoring_none c.args.lits.now c.args.kernel.now _ c.clear.ensures.items)).partial

pub loop-k-init : goal.loop-k-init
loop-k-init c = record {
  so_far = rw (c.len-k.ensures, c.stack-2.ensures) (restoring_none c.args.lits.now c.args.kernel.now _ (c.reserve.ensures.items ∙ c.clear.ensures.items));
  room = room_all _ _ _ _ _ ((rw c.stack-2.ensures at c.len-k.ensures) ∙ sym (sym c.in_ok-chosen.chosen.ok.0 ∙ rw c.stack.ensures at c.in_ok-chosen.ensures.len)) (rw c.deref.ensures.value at c.count_chosen.ensures) c.in_ok-reserve.ensures.ok;
}

pub restore-requires-clause-clean : goal.restore-requires-clause-clean
restore-requires-clause-clean c =
    restore_clean _ _ _ _ _ (c.loop-k.k - 1) c.loop-k.invariant.so_far (omega arith)
    (flag_at _ _ _ _ _ _ (sym c.in_ok-chosen.chosen.ok.0 ∙ rw c.stack.ensures at c.in_ok-chosen.ensures.len) (rw c.stack.ensures at c.in_ok-chosen.ensures.needed) (omega arith) c.index.ensures c.if-index.true)

pub returns-in_err-id-clause-same : goal.returns-in_err-id-clause-same
returns-in_err-id-clause-same c = rw c.in_err-id.ensures.err (seen _ _ _ _ _ c.loop-k.invariant.so_far).same

pub returns-in_err-id-clause-listed : goal.returns-in_err-id-clause-listed
returns-in_err-id-clause-listed c = rw c.in_err-id.ensures.err (seen _ _ _ _ _ c.loop-k.invariant.so_far).listed

pub returns-in_err-id-clause-live : goal.returns-in_err-id-clause-live
returns-in_err-id-clause-live c = rw c.in_err-id.ensures.err (seen _ _ _ _ _ c.loop-k.invariant.so_far).live

pub returns-in_err-id-clause-partial : goal.returns-in_err-id-clause-partial
returns-in_err-id-clause-partial c =
    on_err c.from_residual-in_err-id.result (rw c.in_err-id.ensures.err (seen _ _ _ _ _ c.loop-k.invariant.so_far).partial)

pub loop-k-preserved-in-Continue-branch-4 : goal.loop-k-preserved-in-Continue-branch-4
loop-k-preserved-in-Continue-branch-4 c = record {
  so_far = restore_step _ _ _ _ _ (c.loop-k.k - 1) c.loop-k.invariant.so_far (omega arith) _ _ _ c.in_ok-push.ensures.items
      (flag_at _ _ _ _ _ _ (sym c.in_ok-chosen.chosen.ok.0 ∙ rw c.stack.ensures at c.in_ok-chosen.ensures.len) (rw c.stack.ensures at c.in_ok-chosen.ensures.needed) (omega arith) c.index.ensures c.if-index.true)
      c.in_ok-id.ensures.ok;
  room = room_taken _ _ _ _ (c.loop-k.k - 1) _ c.loop-k.invariant.room (omega arith) (omega (arith, sym c.in_ok-chosen.chosen.ok.0 ∙ rw c.stack.ensures at c.in_ok-chosen.ensures.len)) c.index.ensures _ _ c.if-index.true c.in_ok-push.ensures.len c.push.ensures.capacity;
}

pub loop-k-preserved : goal.loop-k-preserved
loop-k-preserved c = record {
  so_far = stay_step _ _ _ _ _ (c.loop-k.k - 1) c.loop-k.invariant.so_far (omega arith)
      (flag_at _ _ _ _ _ _ (sym c.in_ok-chosen.chosen.ok.0 ∙ rw c.stack.ensures at c.in_ok-chosen.ensures.len) (rw c.stack.ensures at c.in_ok-chosen.ensures.needed) (omega arith) c.index.ensures c.if-index.false);
  room = room_kept _ _ _ _ (c.loop-k.k - 1) _ c.loop-k.invariant.room (omega arith) (omega (arith, sym c.in_ok-chosen.chosen.ok.0 ∙ rw c.stack.ensures at c.in_ok-chosen.ensures.len)) c.index.ensures c.if-index.false;
}

pub returns-clause-needed : goal.returns-clause-needed
returns-clause-needed c = rw (restored_all _ _ _ _ _ c.loop-k.invariant.so_far (omega arith)) (Without-needed _ _)

pub returns-clause-clean : goal.returns-clause-clean
returns-clause-clean c = rw (restored_all _ _ _ _ _ c.loop-k.invariant.so_far (omega arith)) (Clean-unchosen c.args.lits.now c.args.kernel.now.stack)

pub returns-clause-same : goal.returns-clause-same
returns-clause-same c = (seen _ _ _ _ _ c.loop-k.invariant.so_far).same

pub returns-clause-listed : goal.returns-clause-listed
returns-clause-listed c = (seen _ _ _ _ _ c.loop-k.invariant.so_far).listed

pub returns-clause-live : goal.returns-clause-live
returns-clause-live c = (seen _ _ _ _ _ c.loop-k.invariant.so_far).live

pub returns-clause-chained : goal.returns-clause-chained
returns-clause-chained c = chained_so_far _ _ _ _ _ c.loop-k.invariant.so_far c.law_chain.ensures

pub returns-in_err-id-clause-chained : goal.returns-in_err-id-clause-chained
returns-in_err-id-clause-chained c = rw c.in_err-id.ensures.err (chained_so_far _ _ _ _ _ c.loop-k.invariant.so_far c.law_chain.ensures)

pub returns-clause-standing : goal.returns-clause-standing
returns-clause-standing c = (seen _ _ _ _ _ c.loop-k.invariant.so_far).standing

pub returns-in_err-id-clause-standing : goal.returns-in_err-id-clause-standing
returns-in_err-id-clause-standing c = rw c.in_err-id.ensures.err (seen _ _ _ _ _ c.loop-k.invariant.so_far).standing
