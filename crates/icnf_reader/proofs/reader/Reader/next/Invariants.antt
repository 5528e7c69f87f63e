use Rattle.std.proofs.Common.{◌≡◌, ◌≤◌, ◌⊎◌, true, false}
use Rattle.std.specs.Io.KnownBytes.{IsAtEnd}
use Rattle.io_edge.specs.Reading.{rest_of}
use Rattle.io_edge.specs.Told.{WhereTold}
use Rattle.icnf_reader.specs.WordState.{word_fuel}
use Rattle.icnf_reader.specs.ReadState.{SameOutcome, LeadsOver, given, is_before_header, takes_cards}
use Rattle.icnf_reader.proofs.reader.Reader.next.Given as goal

abbrev pub invariant-loop-line : goal.invariant-loop-line
invariant-loop-line g l =
    let left = g.S.Source.left in
    let faults = g.S.Source.faults in
    record {
      same : WhereTold (rest_of l.fn.self.words.lines (left l.fn.source)) (rest_of l.self.words.lines (left l.source)) (SameOutcome l.fn.self l.self);
      over : WhereTold (rest_of l.fn.self.words.lines (left l.fn.source)) (rest_of l.self.words.lines (left l.source)) (LeadsOver l.fn.self l.self (λ o. o));
      going : l.self.words.lines.done ≡ false;
      done : l.self.done ≡ true;
      given : given l.self.point ≡ given l.fn.self.point;
      kept : faults l.source ≡ faults l.fn.source;
      header : is_before_header l.fn.self.point.mode ≡ true → is_before_header l.self.point.mode ≡ true;
      cards : takes_cards l.fn.self.point.mode ≡ false → takes_cards l.self.point.mode ≡ false;
      fuel : word_fuel l.self.words ≤ word_fuel l.fn.self.words;
      unread : l.fn.self.words.lines.ended ≡ true → (l.source ≡ l.fn.source) × (l.self.words.lines.ended ≡ true);
      at_end : l.self.words.lines.ended ≡ true → (l.fn.self.words.lines.ended ≡ true) ⊎ IsAtEnd (left l.source);
    }

abbrev pub decreases-loop-line : goal.decreases-loop-line
decreases-loop-line g l = word_fuel l.self.words
