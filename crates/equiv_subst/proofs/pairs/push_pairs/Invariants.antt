use Rattle.rule_kernel.specs.Frozen.{is_frozen}
use Rattle.equiv_subst.proofs.Pairing.{Pairing}
use Rattle.equiv_subst.proofs.pairs.push_pairs.Given as goal

abbrev pub invariant-loop-lit : goal.invariant-loop-lit
invariant-loop-lit l = Pairing (is_frozen l.frozen) l.members l.to l.lit-index l.initial.pairs.items l.pairs.items
