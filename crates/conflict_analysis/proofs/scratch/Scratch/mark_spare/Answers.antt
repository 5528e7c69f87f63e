use Rattle.std.proofs.Common.{◌∙◌}
use Rattle.conflict_analysis.proofs.scratch.Scratch.mark_spare.Goals as goal

pub loop-index-preserved : goal.loop-index-preserved
loop-index-preserved c = record {
  resolved = λ b r. c.in_ok-follow.ensures.resolved b (c.loop-index.invariant.resolved b r);
  wide = c.in_ok-follow.ensures.wide;
  lits = c.in_ok-follow.ensures.lits ∙ c.loop-index.invariant.lits;
}
