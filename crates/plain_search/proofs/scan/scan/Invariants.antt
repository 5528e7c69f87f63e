use Rattle.std.proofs.Common.{◌<◌}
use Rattle.plain_search.specs.Rules.{rules}
use Rattle.plain_search.proofs.Looking.{IsAt, Round}
use Rattle.plain_search.proofs.scan.scan.Given as goal

abbrev pub invariant-loop-k : goal.invariant-loop-k
invariant-loop-k g l = record {
  start : 0 < l.count → l.initial.at < l.count;
  below : 0 < l.count → l.at < l.count;
  place : IsAt l.initial.at l.count l._k l.at;
  round : Round l.now.steps (rules l.assumed (g.L.ClauseList.clauses l.clauses)) l.initial.at l._k l.met;
}
