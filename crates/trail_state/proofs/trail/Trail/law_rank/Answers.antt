use Rattle.trail_state.proofs.Ranks.{rank-bound}
use Rattle.trail_state.proofs.trail.Trail.law_rank.Goals as goal

pub returns : goal.returns
returns c = rank-bound _ _
