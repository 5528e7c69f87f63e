use Rattle.normal_form.proofs.Rising.{VarsRise}
use Rattle.normal_form.proofs.forms.is_normal.Given as goal

abbrev pub invariant-loop-k : goal.invariant-loop-k
invariant-loop-k l = VarsRise l.lits l.k
