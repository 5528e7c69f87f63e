use Rattle.std.proofs.Common.{refl}
use Rattle.watch_lists.proofs.Looks.{moves}
use Rattle.watch_lists.proofs.visits.move_watch.Goals as goal

pub returns-clause-ok : goal.returns-clause-ok
returns-clause-ok c =
    moves c.args.id c.args.f c.args.other c.args.k c.args.next c.code.result c.args.lists.now _ c.args.copies.now c.turn.new.self _ c.push.new.self c.requires.one c.requires.within.late c.requires.within.within c.requires.within.listed c.requires.next
    c.code.ensures.value c.in_ok-push.ensures.ok refl (rw c.index.ensures at c.turn.ensures)
