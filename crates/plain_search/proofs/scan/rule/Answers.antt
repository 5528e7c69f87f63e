use Rattle.std.proofs.Common.{◌≡◌, ◌∙◌, ◌+◌, ◌-◌, arith}
use Rattle.plain_search.proofs.RuleLemmas.{rule_assumed, rule_clause}
use Rattle.plain_search.proofs.scan.rule.Goals as goal

pub returns-then-k-assumed : goal.returns-then-k-assumed
returns-then-k-assumed g c =
    let one : c.args.k + 1 - c.args.k ≡ 1 = omega arith in
    rw one (rule_assumed c.args.assumed.now (g.L.ClauseList.clauses c.args.clauses.now) c.args.k c.if-k-assumed.true)

pub returns-else-k-assumed : goal.returns-else-k-assumed
returns-else-k-assumed g c = rule_clause c.args.assumed.now (g.L.ClauseList.clauses c.args.clauses.now) c.args.k c.if-k-assumed.false ∙ c.clause.ensures
