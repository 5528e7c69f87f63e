use Rattle.std.proofs.Common.{◌∙◌, sym, ap, arith, length}
use Rattle.icnf_reader.specs.ReadState.{given, takes_cards}
use Rattle.icnf_reader.proofs.Declared.{entered_declared, heading_declared, empty_outside, entered_takes, heading_takes, entered_empty, heading_empty}
use Rattle.icnf_reader.proofs.reader.Reader.take_word.Goals as goal

pub invariant_of-self : goal.invariant_of-self
invariant_of-self c = record {
  few = c.self.invariant.few;
  counted = let none = ap length c.new.ensures in omega (arith, none);
  closed = empty_outside c.in-Enters.mode c.new.result c.new.ensures;
  declared = entered_declared c.self.inside.mode c.text.result.now c.in-Enters.mode c.self.invariant.declared (sym c.meaning_of-meaning.ensures ∙ c.in-Enters.is);
  going = c.self.invariant.going;
}

pub returns-in-Heading-clause-vars : goal.returns-in-Heading-clause-vars
returns-in-Heading-clause-vars c = heading_declared c.self.inside.mode c.text.result.now c.in-Heading.header c.in-Heading.allowed c.self.invariant.declared (sym c.meaning_of-meaning.ensures ∙ c.in-Heading.is)

pub returns-in-Enters-clause-cards : goal.returns-in-Enters-clause-cards
returns-in-Enters-clause-cards c = λ none.
    entered_takes c.self.inside.mode c.text.result.now c.in-Enters.mode (ap (λ s. takes_cards s.point.mode) c.self.view_is ∙ none) (sym c.meaning_of-meaning.ensures ∙ c.in-Enters.is)

pub returns-in-Heading-clause-cards : goal.returns-in-Heading-clause-cards
returns-in-Heading-clause-cards c = λ none.
    heading_takes c.self.inside.mode c.text.result.now c.in-Heading.header c.in-Heading.allowed (ap (λ s. takes_cards s.point.mode) c.self.view_is ∙ none) (sym c.meaning_of-meaning.ensures ∙ c.in-Heading.is)

pub returns-in-Enters-clause-count : goal.returns-in-Enters-clause-count
returns-in-Enters-clause-count c =
    let none = entered_empty c.self.inside.mode c.text.result.now c.self.inside.lits c.in-Enters.mode c.self.invariant.closed (sym c.meaning_of-meaning.ensures ∙ c.in-Enters.is) in
    omega (arith, ap length none, ap length c.new.ensures, ap (λ s. given s.point) c.self.view_is)

pub returns-in-Heading-clause-count : goal.returns-in-Heading-clause-count
returns-in-Heading-clause-count c =
    let none = heading_empty c.self.inside.mode c.text.result.now c.self.inside.lits c.in-Heading.header c.in-Heading.allowed c.self.invariant.closed (sym c.meaning_of-meaning.ensures ∙ c.in-Heading.is) in
    omega (arith, ap length none, ap length c.new-in-Heading.ensures, ap (λ s. given s.point) c.self.view_is)
