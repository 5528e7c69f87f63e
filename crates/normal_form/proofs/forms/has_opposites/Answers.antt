use Rattle.std.proofs.Common.{arith}
use Rattle.normal_form.proofs.Risen.{normal_from}
use Rattle.normal_form.proofs.forms.has_opposites.Goals as goal

pub returns-clause-none : goal.returns-clause-none
returns-clause-none c =
    λ e. normal_from c.args.lits.now c.requires (λ i lt in'. c.loop-k.invariant i (omega arith) in')
