use Rattle.conflict_analysis.proofs.scratch.Scratch.advance.Goals as goal

pub returns-in-Some-clause-resolved : goal.returns-in-Some-clause-resolved
returns-in-Some-clause-resolved c = rw c.leave.ensures at c.visit.ensures.resolved
