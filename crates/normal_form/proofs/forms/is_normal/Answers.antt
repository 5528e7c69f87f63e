use Rattle.std.proofs.Common.{arith, refl, ◌∙◌}
use Rattle.std.proofs.lemmas.Bool.{false≢true}
use Rattle.normal_form.proofs.Rising.{normal_rising, falls}
use Rattle.normal_form.proofs.forms.is_normal.Goals as goal

pub returns : goal.returns
returns c = (λ t. normal_rising _ (λ i lt in'. c.loop-k.invariant i (omega arith) in'), λ n. refl)

pub returns-then-index : goal.returns-then-index
returns-then-index c = (λ h. absurd (false≢true h), λ n. absurd (falls c.args.lits.now c.loop-k.k c.index-lits-k.result c.index-lits-k-in-loop-k.result (omega arith) (omega arith) c.index-lits-k.is c.index-lits-k-in-loop-k.is (rw (c.index-in-loop-k.ensures.value ∙ c.var-in-loop-k.ensures.value, c.index.ensures.value ∙ c.var.ensures.value) at c.if-index.true) n))
