use Rattle.std.proofs.Common.{◌≡◌, ℕ, true, take, ◌||◌}
use Rattle.flag_set.specs.Flags.{holds}
use Rattle.flag_set.specs.Listed.{lists, flag, is_in}
use Rattle.flag_set.proofs.set.FlagSet.put_each.Given as goal

abbrev pub invariant-loop-member : goal.invariant-loop-member
invariant-loop-member g l = record {
  more : (n : ℕ) → holds l.fn.self n ≡ true → holds l.self n ≡ true;
  came : (n : ℕ) → lists g.T.Member.number_of (take l.member-index l.members) n ≡ true → is_in (flag l.flags n) ≡ true → holds l.self n ≡ true;
  only : (n : ℕ) → holds l.self n ≡ true → (holds l.fn.self n || is_in (flag l.flags n)) ≡ true;
}
