use Rattle.std.proofs.Common.{◌≡◌, ℕ, true, false, length, take}
use Rattle.flag_set.specs.Listed.{flag, is_listed, lists}
use Rattle.flag_set.proofs.set.lower_all.Given as goal

abbrev pub invariant-loop-member : goal.invariant-loop-member
invariant-loop-member g l = record {
  long : length l.flags.items ≡ length l.fn.flags.items;
  listed : (n : ℕ) → lists g.T.Member.number_of (take l.member-index l.listed) n ≡ true → is_listed (flag l.flags.items n) ≡ false;
  others : (n : ℕ) → is_listed (flag l.flags.items n) ≡ true → is_listed (flag l.fn.flags.items n) ≡ true;
}
