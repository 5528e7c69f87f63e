use Rattle.normal_form.proofs.Risen.{NoneOpposite}
use Rattle.normal_form.proofs.forms.has_opposites.Given as goal

abbrev pub invariant-loop-k : goal.invariant-loop-k
invariant-loop-k l = NoneOpposite l.lits l.k
