use Rattle.lazy_reasons.proofs.Rows.{asked_nothing}
use Rattle.conflict_analysis.proofs.analysis.analyze.Goals as goal

pub returns-then-is_due-clause-asked : goal.returns-then-is_due-clause-asked
returns-then-is_due-clause-asked g c = asked_nothing _ _
