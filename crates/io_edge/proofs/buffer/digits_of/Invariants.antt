use Rattle.std.proofs.Common.{◌≡◌, ◌≤◌, ◌<◌, ◌^◌, ◌++◌, drop, length}
use Rattle.std.specs.Fmt.{decimal}
use Rattle.io_edge.proofs.Digits.{front_digits}
use Rattle.io_edge.proofs.buffer.digits_of.Given as goal

abbrev pub invariant-loop-rest : goal.invariant-loop-rest
invariant-loop-rest l = record {
  size : length l.field ≡ 20;
  within : l.at ≤ 19;
  below : l.rest < 10 ^ l.at;
  digits : front_digits l.rest ++ drop l.at l.field ≡ decimal l.number;
}

abbrev pub decreases-loop-rest : goal.decreases-loop-rest
decreases-loop-rest l = l.rest
