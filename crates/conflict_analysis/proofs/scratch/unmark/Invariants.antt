use Rattle.std.proofs.Common.{◌≡◌, ◌++◌, length, vec_len}
use Rattle.conflict_analysis.specs.Walking.{IsListed}
use Rattle.conflict_analysis.proofs.scratch.unmark.Given as goal

abbrev pub invariant-loop-lit : goal.invariant-loop-lit
invariant-loop-lit l = record {
  listed : IsListed l.seen.items (l.others ++ l.listed.items);
  long : length l.seen.items ≡ length l.initial.seen.items;
}

abbrev pub decreases-loop-lit : goal.decreases-loop-lit
decreases-loop-lit l = vec_len l.listed
