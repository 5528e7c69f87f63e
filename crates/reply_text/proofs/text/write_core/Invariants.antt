use Rattle.std.proofs.Common.{◌≡◌, drop}
use Rattle.std.specs.Prelude.{codes, map}
use Rattle.io_edge.specs.Wrapped.{still_to_come, IsUnderWay}
use Rattle.reply_text.specs.Reply.{Unsat}
use Rattle.reply_text.specs.Text.{reply_text, number_of}
use Rattle.reply_text.proofs.text.write_core.Given as goal

abbrev pub invariant-loop-lit : goal.invariant-loop-lit
invariant-loop-lit g l = record {
  wrote : IsUnderWay (reply_text (Unsat l.core)) (still_to_come (codes "f ") l.line (drop l.lit-index (map number_of l.core))) (g.K.Sink.written l.fn.sink) (g.K.Sink.written l.sink);
  kept : g.K.Sink.faults l.sink ≡ g.K.Sink.faults l.fn.sink;
}
