use Rattle.plain_search.proofs.Looking.{SoFar}
use Rattle.plain_search.proofs.scan.look.Given as goal

abbrev pub invariant-loop-lit : goal.invariant-loop-lit
invariant-loop-lit l = SoFar l.now.steps l.lits l.lit-index l.undecided l.first
