use Rattle.std.proofs.Common.{◌≡◌, ℕ, true, take}
use Rattle.flag_set.specs.Flags.{holds}
use Rattle.flag_set.specs.Listed.{lists, flag, is_in}
use Rattle.flag_set.proofs.set.are_in.Given as goal

abbrev pub invariant-loop-member : goal.invariant-loop-member
invariant-loop-member g l = record {
  within : (n : ℕ) → lists g.T.Member.number_of (take l.member-index l.members) n ≡ true → is_in (flag l.flags n) ≡ true → holds l.other n ≡ true;
}
