use Rattle.std.proofs.Common.{◌≡◌, ◌≤◌, drop, take, max}
use Rattle.std.specs.Prelude.{All}
use Rattle.sat_terms.specs.Limits.{max_var}
use Rattle.sat_terms.specs.Literal.{var_of}
use Rattle.sat_terms.specs.Answer.{greatest_var}
use Rattle.solver_api.proofs.literals.greatest_of.Given as goal

abbrev pub invariant-loop-lit : goal.invariant-loop-lit
invariant-loop-lit l = record {
  same : max l.greatest (greatest_var (drop l.lit-index l.lits)) ≡ max l.most (greatest_var l.lits);
  few : l.greatest ≤ max_var;
  positive : All (λ x. 1 ≤ var_of x) (take l.lit-index l.lits);
}
