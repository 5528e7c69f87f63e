use Rattle.std.proofs.Common.{◌∙◌}
use Rattle.conflict_analysis.proofs.scratch.Scratch.follow.Goals as goal

pub returns-then-not-branch-clause-resolved : goal.returns-then-not-branch-clause-resolved
returns-then-not-branch-clause-resolved c =
    λ b r. c.in_ok-advance.ensures.resolved b (c.loop.invariant.resolved b (rw (c.enter.ensures, c.start_path.ensures) r))

pub loop-preserved : goal.loop-preserved
loop-preserved c = record {
  resolved = λ b r. c.in_ok-advance.ensures.resolved b (c.loop.invariant.resolved b r);
  wide = c.in_ok-advance.ensures.wide;
  lits = c.in_ok-advance.ensures.lits ∙ c.loop.invariant.lits;
}

pub returns-clause-resolved : goal.returns-clause-resolved
returns-clause-resolved c = λ b r. c.loop.invariant.resolved b (rw (c.enter.ensures, c.start_path.ensures) r)
