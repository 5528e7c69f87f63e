use Rattle.std.proofs.Common.{◌≡◌, ◌≤◌, ◌-◌, drop, length, map, string_bytes}
use Rattle.icnf_runner.specs.Items.{parse, nothing_found}
use Rattle.icnf_runner.proofs.options.read_words.Given as goal

abbrev pub invariant-loop-at : goal.invariant-loop-at
invariant-loop-at l = record {
  within : l.at ≤ length l.words;
  same : parse (drop l.at (map string_bytes l.words)) l.found ≡ parse (map string_bytes l.words) nothing_found;
}

abbrev pub decreases-loop-at : goal.decreases-loop-at
decreases-loop-at l = length l.words - l.at
