use Rattle.std.proofs.Common.{◌≡◌, ◌≤◌, ◌+◌, ◌++◌, length, drop}
use Rattle.io_edge.proofs.buffer.Buffer.push_all.Given as goal

abbrev pub invariant-loop-byte : goal.invariant-loop-byte
invariant-loop-byte l = record {
  room : length l.self + length (drop l.byte-index l.bytes) ≤ 4096;
  pushed : l.self ++ drop l.byte-index l.bytes ≡ l.fn.self ++ l.bytes;
}
