use Rattle.std.proofs.Common.{vec_len}
use Rattle.conflict_analysis.proofs.scratch.note_all.Given as goal

abbrev pub decreases-loop-visit : goal.decreases-loop-visit
decreases-loop-visit l = vec_len l.path
