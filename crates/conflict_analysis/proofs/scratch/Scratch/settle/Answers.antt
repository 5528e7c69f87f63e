use Rattle.conflict_analysis.proofs.Shortening.{resolved_settled, follows_wide}
use Rattle.conflict_analysis.proofs.scratch.Scratch.settle.Goals as goal

pub returns-clause-resolved : goal.returns-clause-resolved
returns-clause-resolved c =
    λ b w. resolved_settled c.args.store.now b c.args.trail.now c.args.uip c.args.lit c.args.self.now c.note_spare.new.self c.law_shape.ensures w c.requires.follows
    (follows_wide c.args.store.now c.args.trail.now c.args.lit c.args.self.now c.law_room.ensures c.requires.wide c.requires.follows) c.in_ok-note_spare.ensures
