use Rattle.firm_terms.proofs.Signing.{Signing}
use Rattle.rule_kernel.proofs.signature.signature_of.Given as goal

abbrev pub invariant-loop-lit : goal.invariant-loop-lit
invariant-loop-lit l = Signing l.lits l.lit-index l.bits
