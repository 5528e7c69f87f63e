use Rattle.std.proofs.Common.{◌≡◌, ◌+◌, ◌-◌, ◌^◌, ◌≤◌, length}
use Rattle.plain_search.specs.Steps.{Justified, rank}
use Rattle.sat_terms.specs.Answer.{Satisfies}
use Rattle.plain_search.specs.Rules.{rules}
use Rattle.plain_search.proofs.search.search.Given as goal

abbrev pub invariant-loop-now : goal.invariant-loop-now
invariant-loop-now g l = record {
  vars : l.now.vars ≡ l.vars;
  justified : Justified (Satisfies (rules l.assumed (g.L.ClauseList.clauses l.clauses))) l.now.steps;
  room : length l.now.steps ≤ l.vars + 1;
}

abbrev pub decreases-loop-now : goal.decreases-loop-now
decreases-loop-now g l = 3 ^ (l.vars + 1) - rank (l.vars + 1) l.now.steps
