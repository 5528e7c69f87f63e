use Rattle.trail_state.proofs.Places.{lit_read}
use Rattle.conflict_analysis.proofs.Turns.{place_wide, mark_read}
use Rattle.conflict_analysis.proofs.scratch.Scratch.is_marked_at.Goals as goal

pub is_marked-requires : goal.is_marked-requires
is_marked-requires c = place_wide c.args.trail.now c.args.place _ _ c.law_room.ensures c.requires.within (lit_read c.args.trail.now.steps c.args.place c.index-lits-place.result c.requires.within (rw c.lits.ensures at c.index-lits-place.is)) c.requires.wide

pub returns : goal.returns
returns c = mark_read c.args.trail.now c.args.place _ c.args.self.now c.requires.within (lit_read c.args.trail.now.steps c.args.place c.index-lits-place.result c.requires.within (rw c.lits.ensures at c.index-lits-place.is)) _ c.is_marked.ensures
