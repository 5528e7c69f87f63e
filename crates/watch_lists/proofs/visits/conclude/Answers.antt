use Rattle.std.proofs.Common.{◌∙◌, sym}
use Rattle.watch_lists.proofs.Growing.{unit_declared}
use Rattle.watch_lists.proofs.Looks.{declared_at}
use Rattle.watch_lists.proofs.Watched.{unit_left}
use Rattle.watch_lists.proofs.visits.conclude.Goals as goal

pub is_false-requires : goal.is_false-requires
is_false-requires c = declared_at _ _ _ c.requires.ready.1 c.requires.holds

pub assign-requires-clause-declared : goal.assign-requires-clause-declared
assign-requires-clause-declared c =
    let u = unit_left _ _ _ c.requires.holds c.requires.untrue (sym c.is_false.ensures ∙ c.if-is_false.false) c.requires.none in
    unit_declared _ _ c.args.id _ _ c.requires.ready u
