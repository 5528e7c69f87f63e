use Rattle.std.proofs.Common.{arith}
use Rattle.sat_terms.proofs.Members.{has_at}
use Rattle.conflict_analysis.proofs.Shortening.{reason_wide}
use Rattle.conflict_analysis.proofs.scratch.Scratch.open_from.Goals as goal

pub is_covered-requires : goal.is_covered-requires
is_covered-requires c =
    reason_wide c.args.trail.now c.args.reason.now c.args.place c.index-reason-next.result _ c.law_shape.ensures c.law_room.ensures c.requires.within c.requires.reason
    (has_at c.args.reason.now c.loop-next.next c.index-reason-next.result (omega arith) c.index-reason-next.is) c.requires.wide
