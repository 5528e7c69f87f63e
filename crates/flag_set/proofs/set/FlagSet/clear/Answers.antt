use Rattle.flag_set.proofs.Raising.{emptied}
use Rattle.flag_set.proofs.set.FlagSet.clear.Goals as goal

pub returns : goal.returns
returns g c n =
    emptied c.lower_all.new.flags.items n
    (λ h. (rw c.as_slice.ensures.value at c.lower_all.ensures.listed) n (c.self.invariant.every n (c.lower_all.ensures.others n h)))
