use Rattle.conflict_analysis.proofs.scratch.Scratch.is_spare.Goals as goal

pub returns-in-Some : goal.returns-in-Some
returns-in-Some c here = record {
  place = c.in-Some.place;
  within = c.in-Some.ensures.within;
  same = c.in-Some.ensures.same;
  above = c.in-Some.ensures.above;
  below = c.in-Some.ensures.below;
  spare = record { clause = c.reason_at.result.now; implied = c.reason_at.ensures.known; covered = c.covers.ensures here };
}
