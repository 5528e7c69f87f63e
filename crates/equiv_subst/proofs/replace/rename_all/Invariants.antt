use Rattle.std.proofs.Common.{count_by}
use Rattle.equiv_subst.specs.Replacing.{about}
use Rattle.sat_terms.specs.Literal.{var_of}
use Rattle.equiv_subst.proofs.Replacing.{Renaming}
use Rattle.equiv_subst.proofs.replace.rename_all.Given as goal

abbrev pub invariant-loop-id : goal.invariant-loop-id
invariant-loop-id l = Renaming l.fn.kernel l.kernel l.p l.q l.tie.forth l.tie.back l.fn.steps l.steps l.limit

abbrev pub decreases-loop-id : goal.decreases-loop-id
decreases-loop-id l = count_by (about (var_of l.p)) l.kernel.store
