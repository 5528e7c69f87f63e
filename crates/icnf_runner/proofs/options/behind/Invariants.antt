use Rattle.std.proofs.Common.{◌≡◌, ◌≤◌, ◌-◌, drop, length}
use Rattle.icnf_runner.specs.Items.{rest_after}
use Rattle.icnf_runner.proofs.options.behind.Given as goal

abbrev pub invariant-loop-at : goal.invariant-loop-at
invariant-loop-at l = record {
  within : l.at ≤ length l.name;
  inside : l.at ≤ length l.word;
  same : rest_after (drop l.at l.name) (drop l.at l.word) ≡ rest_after l.name l.word;
}

abbrev pub decreases-loop-at : goal.decreases-loop-at
decreases-loop-at l = length l.name - l.at
