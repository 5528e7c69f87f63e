use Rattle.subsume_pass.proofs.Trying.{Testing, Flagged}
use Rattle.subsume_pass.proofs.turn.meet_all.Given as goal

abbrev pub invariant-loop-id : goal.invariant-loop-id
invariant-loop-id l = record {
  testing : Testing l.fn.kernel l.kernel l.by l.ids l.id-index l.fn.steps l.steps l.limit;
  flagged : Flagged l.fn.kernel l.kernel l.changed;
}
