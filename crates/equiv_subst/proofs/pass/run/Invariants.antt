use Rattle.std.proofs.Common.{◌-◌, length}
use Rattle.rule_kernel.specs.Frozen.{is_frozen}
use Rattle.firm_terms.specs.Firm.{firm, vars, gone}
use Rattle.equiv_subst.proofs.Passing.{Passing}
use Rattle.equiv_subst.proofs.pass.run.Given as goal

abbrev pub invariant-loop-kernel : goal.invariant-loop-kernel
invariant-loop-kernel l = Passing (is_frozen l.frozen) l.fn.kernel l.kernel l.steps l.limit

abbrev pub decreases-loop-kernel : goal.decreases-loop-kernel
decreases-loop-kernel l = length (vars (firm l.fn.kernel.store)) - gone (vars (firm l.fn.kernel.store)) (firm l.kernel.store)
