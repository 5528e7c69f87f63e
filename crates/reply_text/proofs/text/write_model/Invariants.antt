use Rattle.std.proofs.Common.{◌≡◌, drop}
use Rattle.std.specs.Prelude.{codes}
use Rattle.io_edge.specs.Wrapped.{still_to_come, IsUnderWay}
use Rattle.reply_text.specs.Reply.{Sat}
use Rattle.reply_text.specs.Text.{reply_text, true_numbers, padded}
use Rattle.reply_text.proofs.text.write_model.Given as goal

abbrev pub invariant-loop-place : goal.invariant-loop-place
invariant-loop-place g l = record {
  wrote : IsUnderWay (reply_text (Sat (padded l.vars l.model))) (still_to_come (codes "v ") l.line (drop l.place (true_numbers 1 (padded l.vars l.model)))) (g.K.Sink.written l.fn.sink) (g.K.Sink.written l.sink);
  kept : g.K.Sink.faults l.sink ≡ g.K.Sink.faults l.fn.sink;
}
