use Rattle.flag_set.proofs.Raising.{raised}
use Rattle.flag_set.proofs.set.FlagSet.put.Goals as goal

pub returns-clause-ok : goal.returns-clause-ok
returns-clause-ok g c n =
    rw (← c.self.view_is, c.number-at.ensures.value)
    (raised c.self.inside.flags.items c.reach.new.flags.items (g.T.Member.number_of c.args.member) n (rw c.number-at.ensures.value at c.in_ok-reach.ensures.long) (c.reach.ensures.same n))
