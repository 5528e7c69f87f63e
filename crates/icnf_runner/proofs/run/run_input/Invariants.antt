use Rattle.std.proofs.Common.{◌≡◌, ◌≤◌, true, false}
use Rattle.std.specs.Io.KnownBytes.{IsAtEnd}
use Rattle.io_edge.specs.Reading.{rest_of}
use Rattle.icnf_reader.specs.WordState.{word_fuel}
use Rattle.icnf_reader.specs.ReadState.{takes_cards}
use Rattle.solver_api.specs.Steps.{state}
use Rattle.icnf_runner.proofs.Course.{HasCome}
use Rattle.icnf_runner.proofs.run.run_input.Given as goal

abbrev pub invariant-loop-lits : goal.invariant-loop-lits
invariant-loop-lits g l =
    let left = g.S.Source.left in
    let written = g.K.Sink.written in
    record {
      come : HasCome l.options l.header (state l.solver) l.status.code (written l.fn.sink) (written l.sink) (left l.fn.source) (rest_of l.reader.words.lines (left l.source)) l.reader;
      going : l.reader.done ≡ false;
      read : g.S.Source.faults l.source ≡ g.S.Source.faults l.fn.source;
      wrote : g.K.Sink.faults l.sink ≡ g.K.Sink.faults l.fn.sink;
      no_cards : takes_cards l.reader.point.mode ≡ false;
      at_end : l.reader.words.lines.ended ≡ true → IsAtEnd (left l.source);
    }

abbrev pub decreases-loop-lits : goal.decreases-loop-lits
decreases-loop-lits g l = word_fuel l.reader.words
