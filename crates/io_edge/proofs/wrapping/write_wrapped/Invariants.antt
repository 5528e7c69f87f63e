use Rattle.std.proofs.Common.{◌≡◌, drop}
use Rattle.io_edge.specs.Wrapped.{wrap, still_to_come, IsUnderWay}
use Rattle.io_edge.proofs.wrapping.write_wrapped.Given as goal

abbrev pub invariant-loop-number : goal.invariant-loop-number
invariant-loop-number g l = record {
  wrote : IsUnderWay (wrap l.prefix l.numbers) (still_to_come l.prefix l.line (drop l.number-index l.numbers)) (g.K.Sink.written l.fn.sink) (g.K.Sink.written l.sink);
  kept : g.K.Sink.faults l.sink ≡ g.K.Sink.faults l.fn.sink;
}
