use Rattle.vivify_pass.proofs.Setting.{Covered}
use Rattle.vivify_pass.proofs.setup.last_var.Given as goal

abbrev pub invariant-loop-id : goal.invariant-loop-id
invariant-loop-id l = Covered l.store l.id-items l.id-index l.max
