use Rattle.std.proofs.Common.{◌≡◌, ◌≤◌, ◌+◌, drop, length}
use Rattle.sat_terms.specs.Limits.{max_literals}
use Rattle.solver_api.specs.Steps.{state}
use Rattle.icnf_runner.specs.Session.{assumed}
use Rattle.icnf_runner.proofs.session.assume_all.Given as goal

abbrev pub invariant-loop-lit : goal.invariant-loop-lit
invariant-loop-lit l = record {
  all : assumed (state l.solver) (drop l.lit-index l.lits) ≡ assumed (state l.fn.solver) l.lits;
  room : (state l.solver).taken + length (drop l.lit-index l.lits) ≤ max_literals;
}
