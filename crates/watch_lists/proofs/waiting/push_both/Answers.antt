use Rattle.std.proofs.Common.{◌∙◌, sym, arith}
use Rattle.watch_lists.proofs.Rooms.{push_undone}
use Rattle.watch_lists.proofs.waiting.push_both.Goals as goal

pub returns-then-is_err-clause-err : goal.returns-then-is_err-clause-err
returns-then-is_err-clause-err c =
    push_undone c.push-pushed.result c.args.lists.now.items c.code-at_first.result c.code-at_second.result c.push.new.self c.push-pushed.new.self c.pop.new.self _ _ _ _
    (omega (arith, c.requires.one, c.code-at_first.ensures.value)) (omega (arith, c.requires.other, c.code-at_second.ensures.value)) c.in_ok-push.ensures.ok c.index_mut.ensures.value (sym c.is_err.ensures.value ∙ c.if-is_err.true) c.push-pushed.ensures.err c.index_mut-2.ensures.value c.pop.ensures c.index_mut-then-is_err.ensures.value
