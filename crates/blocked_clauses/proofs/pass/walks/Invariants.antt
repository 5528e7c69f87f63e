use Rattle.std.proofs.Common.{◌+◌, ◌*◌, length, min}
use Rattle.firm_terms.specs.Firm.{firm}
use Rattle.rule_kernel.specs.Frozen.{is_frozen}
use Rattle.blocked_clauses.proofs.Passing.{Passing}
use Rattle.blocked_clauses.proofs.pass.walks.Given as goal

abbrev pub invariant-walks : goal.invariant-walks
invariant-walks l = Passing (is_frozen l.frozen) l.fn.kernel l.kernel l.from l.steps l.limit

abbrev pub decreases-walks : goal.decreases-walks
decreases-walks l = 2 * length (firm l.kernel.store) + min l.from 1
