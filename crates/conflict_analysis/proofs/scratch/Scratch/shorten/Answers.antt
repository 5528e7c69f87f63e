use Rattle.conflict_analysis.proofs.scratch.Scratch.shorten.Goals as goal

pub lits-preserved : goal.lits-preserved
lits-preserved c = record {
  resolved = λ b r. c.drop_spare.ensures.resolved b (c.lits.invariant.resolved b r);
  wide = c.drop_spare.ensures.wide;
  inside = c.drop_spare.ensures.long;
}

pub returns-clause-resolved : goal.returns-clause-resolved
returns-clause-resolved c = λ b r. c.lits.invariant.resolved b (c.in_ok-mark_spare.ensures.resolved b r)
