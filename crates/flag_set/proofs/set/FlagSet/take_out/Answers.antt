use Rattle.std.proofs.Common.{arith}
use Rattle.flag_set.proofs.Raising.{lowered}
use Rattle.flag_set.proofs.set.FlagSet.take_out.Goals as goal

pub returns-then-is_in : goal.returns-then-is_in
returns-then-is_in g c n =
    rw (← c.self.view_is, c.number-at.ensures.value)
    (lowered c.self.inside.flags.items (g.T.Member.number_of c.args.member) n (omega (arith, c.number-at.ensures.value)))
