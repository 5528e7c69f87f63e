use Rattle.flag_set.proofs.Placing.{lists_with}
use Rattle.rule_kernel.proofs.changes.Changes.mark.Goals as goal

pub returns-clause-vars : goal.returns-clause-vars
returns-clause-vars c v = rw (c.put.ensures.members, ← c.self.view_is) (lists_with (λ n. n) c.self.inside.vars.members c.args.var v)

pub returns-clause-lits : goal.returns-clause-lits
returns-clause-lits c l = rw (c.put-2.ensures.members, ← c.self.view_is) (lists_with (λ n. n) c.self.inside.lits.members c.args.lit l)
