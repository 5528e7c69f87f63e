use Rattle.std.proofs.Common.{◌∙◌, refl, subst, sym, ap, arith, Option, Ok, false}
use Rattle.io_edge.specs.Told.{WhereTold}
use Rattle.io_edge.specs.Reading.{rest_of}
use Rattle.icnf_reader.specs.declared.item.Item.{Item}
use Rattle.icnf_reader.specs.declared.words.WordGot.{WordGot}
use Rattle.icnf_reader.specs.WordState.{WordAnswers, word_is_last, is_word_fault, word_fuel}
use Rattle.icnf_reader.specs.ReadState.{ReadState, SameOutcome, takes_cards, LeadsOver, Takes, ReadAnswers, ReadsOver, given, lits_of, is_before_header, GivesHeader}
use Rattle.icnf_reader.specs.Outcomes.{Point}
use Rattle.icnf_reader.proofs.Left.{ended_on}
use Rattle.icnf_reader.proofs.Reading.{turn_item, turn_on, turn_over, item_over, stop_answers, stop_over, err_last, answer_done, over_done, end_told}
use Rattle.icnf_reader.proofs.reader.Reader.next.Goals as goal

pub returns-in-Some-clause-answer : goal.returns-in-Some-clause-answer
returns-in-Some-clause-answer g c =
    let left = g.S.Source.left in
    let P : ReadState → Type 0 = λ s. WhereTold (rest_of c.args.self.now.words.lines (left c.args.source.now)) (rest_of s.words.lines (left c.loop-line.source)) (SameOutcome c.args.self.now s) in
    let W : WordGot → Type 0 = λ x. WordAnswers c.self-in-loop-line.inside.words c.next.new.self (left c.loop-line.source) (left c.next.new.source) (Ok x) in
    let T : Option Item → Type 0 = λ i. Takes c.in-Ok-Word.line c.next.new.self.text (record { mode = c.self-in-loop-line.inside.mode; lits = c.self-in-loop-line.inside.lits; count = c.self-in-loop-line.inside.count }) c.take_word.new.self.point (Ok i) in
    let Q : ReadState → Type 0 = λ s. ReadAnswers c.args.self.now (record { words = s.words; point = s.point; done = false }) (left c.args.source.now) (left c.next.new.source) (Ok c.in-Some.item) in
    subst Q (sym c.self-in-Ok-Word.view_is) (answer_done c.args.self.now c.take_word.new.self false _ _ c.in-Some.item (turn_item c.args.self.now (record { words = c.self-in-loop-line.inside.words; point = record { mode = c.self-in-loop-line.inside.mode; lits = c.self-in-loop-line.inside.lits; count = c.self-in-loop-line.inside.count }; done = c.self-in-loop-line.inside.done }) c.take_word.new.self c.next.new.self _ _ _ c.in-Ok-Word.line _ (subst P (sym c.self-in-loop-line.view_is) c.loop-line.invariant.same) (subst W c.in-Ok-Word.field-0-is c.in-Ok-Word.ensures.answer)
    c.take_word.ensures.words (subst T c.in-Some.is c.in_ok-item-in-Ok-Word.ensures.takes)))

pub returns-in-Some-clause-lines : goal.returns-in-Some-clause-lines
returns-in-Some-clause-lines g c =
    let left = g.S.Source.left in
    let L : ReadState → Type 0 = λ s. WhereTold (rest_of c.args.self.now.words.lines (left c.args.source.now)) (rest_of s.words.lines (left c.loop-line.source)) (LeadsOver c.args.self.now s (λ o. o)) in
    let W : WordGot → Type 0 = λ x. WordAnswers c.self-in-loop-line.inside.words c.next.new.self (left c.loop-line.source) (left c.next.new.source) (Ok x) in
    let T : Option Item → Type 0 = λ i. Takes c.in-Ok-Word.line c.next.new.self.text (record { mode = c.self-in-loop-line.inside.mode; lits = c.self-in-loop-line.inside.lits; count = c.self-in-loop-line.inside.count }) c.take_word.new.self.point (Ok i) in
    let Q : ReadState → Type 0 = λ s. ReadsOver c.args.self.now (record { words = s.words; point = s.point; done = false }) (left c.args.source.now) (left c.next.new.source) (Ok c.in-Some.item) in
    subst Q (sym c.self-in-Ok-Word.view_is) (over_done c.args.self.now c.take_word.new.self false _ _ c.in-Some.item (item_over c.args.self.now (record { words = c.self-in-loop-line.inside.words; point = record { mode = c.self-in-loop-line.inside.mode; lits = c.self-in-loop-line.inside.lits; count = c.self-in-loop-line.inside.count }; done = c.self-in-loop-line.inside.done }) c.take_word.new.self c.next.new.self _ _ _ c.in-Ok-Word.line _
    (subst L (sym c.self-in-loop-line.view_is) c.loop-line.invariant.over) (subst W c.in-Ok-Word.field-0-is c.in-Ok-Word.ensures.answer) c.take_word.ensures.words c.next.ensures.stays (subst T c.in-Some.is c.in_ok-item-in-Ok-Word.ensures.takes)))

pub returns-in-Err-clause-answer : goal.returns-in-Err-clause-answer
returns-in-Err-clause-answer g c =
    let left = g.S.Source.left in
    let inside = c.self-in-loop-line.inside in
    let point : Point = record { mode = inside.mode; lits = inside.lits; count = inside.count } in
    let P : ReadState → Type 0 = λ s. WhereTold (rest_of c.args.self.now.words.lines (left c.args.source.now)) (rest_of s.words.lines (left c.loop-line.source)) (SameOutcome c.args.self.now s) in
    stop_answers c.args.self.now (record { words = inside.words; point = point; done = inside.done }) (record { words = c.next.new.self; point = point; done = inside.done }) c.next.new.self _ _ _ c.in-Err.stop
    (subst P (sym c.self-in-loop-line.view_is) c.loop-line.invariant.same) c.in-Err.ensures.answer

pub returns-in-Err-clause-lines : goal.returns-in-Err-clause-lines
returns-in-Err-clause-lines g c =
    let left = g.S.Source.left in
    let inside = c.self-in-loop-line.inside in
    let point : Point = record { mode = inside.mode; lits = inside.lits; count = inside.count } in
    let L : ReadState → Type 0 = λ s. WhereTold (rest_of c.args.self.now.words.lines (left c.args.source.now)) (rest_of s.words.lines (left c.loop-line.source)) (LeadsOver c.args.self.now s (λ o. o)) in
    stop_over c.args.self.now (record { words = inside.words; point = point; done = inside.done }) (record { words = c.next.new.self; point = point; done = inside.done }) c.next.new.self _ _ _ c.in-Err.stop
    (λ e. ap (λ s. s.words.lines.ended) c.self-in-loop-line.view_is ∙ (c.loop-line.invariant.unread e).1) refl (subst L (sym c.self-in-loop-line.view_is) c.loop-line.invariant.over) c.in-Err.ensures.answer

pub loop-line-preserved : goal.loop-line-preserved
loop-line-preserved g c =
    let left = g.S.Source.left in
    let P : ReadState → Type 0 = λ s. WhereTold (rest_of c.args.self.now.words.lines (left c.args.source.now)) (rest_of s.words.lines (left c.loop-line.source)) (SameOutcome c.args.self.now s) in
    let W : WordGot → Type 0 = λ x. WordAnswers c.self-in-loop-line.inside.words c.next.new.self (left c.loop-line.source) (left c.next.new.source) (Ok x) in
    let T : Option Item → Type 0 = λ i. Takes c.in-Ok-Word.line c.next.new.self.text (record { mode = c.self-in-loop-line.inside.mode; lits = c.self-in-loop-line.inside.lits; count = c.self-in-loop-line.inside.count }) c.take_word.new.self.point (Ok i) in
    let L : ReadState → Type 0 = λ s. WhereTold (rest_of c.args.self.now.words.lines (left c.args.source.now)) (rest_of s.words.lines (left c.loop-line.source)) (LeadsOver c.args.self.now s (λ o. o)) in
    let word = ap word_is_last c.in-Ok-Word.is ∙ ap (λ x. word_is_last (Ok x)) c.in-Ok-Word.field-0-is in
    let same = c.take_word.ensures.words in
    record {
      same = turn_on c.args.self.now (record { words = c.self-in-loop-line.inside.words; point = record { mode = c.self-in-loop-line.inside.mode; lits = c.self-in-loop-line.inside.lits; count = c.self-in-loop-line.inside.count }; done = c.self-in-loop-line.inside.done }) c.take_word.new.self c.next.new.self _ _ _ c.in-Ok-Word.line (subst P (sym c.self-in-loop-line.view_is) c.loop-line.invariant.same) (subst W c.in-Ok-Word.field-0-is c.in-Ok-Word.ensures.answer)
          same (subst T c.in-None.is c.in_ok-item-in-Ok-Word.ensures.takes);
      over = turn_over (λ o. o) c.args.self.now (record { words = c.self-in-loop-line.inside.words; point = record { mode = c.self-in-loop-line.inside.mode; lits = c.self-in-loop-line.inside.lits; count = c.self-in-loop-line.inside.count }; done = c.self-in-loop-line.inside.done }) c.take_word.new.self c.next.new.self _ _ _ c.in-Ok-Word.line
          (subst L (sym c.self-in-loop-line.view_is) c.loop-line.invariant.over) (subst W c.in-Ok-Word.field-0-is c.in-Ok-Word.ensures.answer) same c.next.ensures.stays (subst T c.in-None.is c.in_ok-item-in-Ok-Word.ensures.takes);
      going = ap (λ w. w.lines.done) same ∙ c.next.ensures.done ∙ word;
      done = c.take_word.ensures.done ∙ ap (λ s. s.done) c.self-in-loop-line.view_is ∙ c.loop-line.invariant.done;
      given = omega (arith, c.in_ok-item-in-Ok-Word.ensures.count, ap lits_of c.in-None.is, ap (λ s. given s.point) c.self-in-loop-line.view_is, c.loop-line.invariant.given);
      kept = c.next.ensures.no_fault (ap is_word_fault c.in-Ok-Word.is) ∙ c.loop-line.invariant.kept;
      header = λ before. let G : Option Item → Type 0 = λ i. GivesHeader c.take_word.new.self.point.mode (Ok i) in
          subst G c.in-None.is (c.in_ok-item-in-Ok-Word.ensures.header (ap (λ s. is_before_header s.point.mode) c.self-in-loop-line.view_is ∙ c.loop-line.invariant.header before));
      cards = λ none. c.take_word.ensures.cards (ap (λ s. takes_cards s.point.mode) c.self-in-loop-line.view_is ∙ c.loop-line.invariant.cards none);
      fuel = omega (arith, c.next.ensures.progress word, c.loop-line.invariant.fuel, ap (λ s. word_fuel s.words) c.self-in-loop-line.view_is, ap word_fuel same);
      unread = λ is. let u = c.loop-line.invariant.unread is in let e = ap (λ s. s.words.lines.ended) c.self-in-loop-line.view_is ∙ u.1 in
          (c.next.ensures.unread e ∙ u.0, ap (λ w. w.lines.ended) same ∙ c.next.ensures.stays e);
      at_end = λ is. ended_on left _ _ _ c.loop-line.invariant.at_end (ap (λ s. s.words.lines.ended) c.self-in-loop-line.view_is) c.next.ensures.unread
          (c.next.ensures.at_end (sym (ap (λ w. w.lines.ended) same) ∙ is));
    }

pub returns-in_err-item-in-Ok-Word-clause-done : goal.returns-in_err-item-in-Ok-Word-clause-done
returns-in_err-item-in-Ok-Word-clause-done g c =
    err_last _ _ c.from_residual.ensures.0 (c.take_word.ensures.done ∙ ap (λ s. s.done) c.self-in-loop-line.view_is ∙ c.loop-line.invariant.done)

pub returns-in-Some-clause-count : goal.returns-in-Some-clause-count
returns-in-Some-clause-count g c =
    omega (arith, c.in_ok-item-in-Ok-Word.ensures.count, ap lits_of c.in-Some.is, ap (λ s. given s.point) c.self-in-loop-line.view_is, ap (λ s. given s.point) c.self-in-Ok-Word.view_is, c.loop-line.invariant.given)

pub returns-in-Ok-End-clause-answer : goal.returns-in-Ok-End-clause-answer
returns-in-Ok-End-clause-answer g c =
    let left = g.S.Source.left in
    let P : ReadState → Type 0 = λ s. WhereTold (rest_of c.args.self.now.words.lines (left c.args.source.now)) (rest_of s.words.lines (left c.loop-line.source)) (SameOutcome c.args.self.now s) in
    let W : WordGot → Type 0 = λ x. WordAnswers c.self-in-loop-line.inside.words c.next.new.self (left c.loop-line.source) (left c.next.new.source) (Ok x) in
    let inside = c.self-in-loop-line.inside in
    let point : Point = record { mode = inside.mode; lits = inside.lits; count = inside.count } in
    end_told c.args.self.now (record { words = inside.words; point = point; done = inside.done }) (record { words = c.next.new.self; point = point; done = inside.done }) _ _ _ c.in-Ok-End.last _
    (subst P (sym c.self-in-loop-line.view_is) c.loop-line.invariant.same) (subst W c.in-Ok-End.field-0-is c.in-Ok-End.ensures.answer) c.end_of.ensures

pub returns-in-Some-clause-header : goal.returns-in-Some-clause-header
returns-in-Some-clause-header g c = λ before.
    let G : Option Item → Type 0 = λ i. GivesHeader c.take_word.new.self.point.mode (Ok i) in
    subst G c.in-Some.is (c.in_ok-item-in-Ok-Word.ensures.header (ap (λ s. is_before_header s.point.mode) c.self-in-loop-line.view_is ∙ c.loop-line.invariant.header before))
