use Rattle.sat_terms.proofs.Members.{has_at}
use Rattle.trail_state.proofs.Places.{lit_read}
use Rattle.conflict_analysis.proofs.Shortening.{reason_wide, covered_more}
use Rattle.conflict_analysis.proofs.scratch.Scratch.covers.Goals as goal

pub is_covered-requires : goal.is_covered-requires
is_covered-requires c =
    reason_wide c.args.trail.now c.args.reason.now c.args.place c.lit-item.result _ c.law_shape.ensures c.law_room.ensures c.requires.within c.requires.reason
    (has_at c.args.reason.now c.loop-lit.lit-index c.lit-item.result c.loop-lit-test.true c.lit-item.is) c.requires.wide

pub loop-lit-preserved : goal.loop-lit-preserved
loop-lit-preserved c =
    covered_more c.args.trail.now c.args.reason.now c.args.self.now.seen c.args.place c.loop-lit.lit-index c.lit-item.result c.index-lits-place.result c.law_shape.ensures c.requires.reason
    (lit_read c.args.trail.now.steps c.args.place c.index-lits-place.result c.requires.within (rw c.lits.ensures at c.index-lits-place.is)) c.loop-lit-test.true c.lit-item.is
    (c.is_covered.ensures c.if-not-is_covered.false) c.loop-lit.invariant
