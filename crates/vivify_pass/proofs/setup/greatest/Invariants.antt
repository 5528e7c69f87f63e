use Rattle.std.proofs.Common.{◌≤◌, take}
use Rattle.sat_terms.specs.Limits.{max_var}
use Rattle.sat_terms.specs.Answer.{Within}
use Rattle.vivify_pass.proofs.setup.greatest.Given as goal

abbrev pub invariant-loop-lit : goal.invariant-loop-lit
invariant-loop-lit l = Within l.max (take l.lit-index l.lits) × (l.seen ≤ l.max) × (l.max ≤ max_var)
