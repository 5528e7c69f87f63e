use Rattle.std.proofs.Common.{rules, arith, ◌≡◌, ◌≤◌, ◌<◌, ◌+◌, ◌-◌, ◌∙◌, ◌∷◌, ◌++◌, [], sym, ap, subst, refl, length, true, false, not, Bool, ℕ, Some, None, Option, take, cond, get_or, All, Contains}
use Rattle.card_propagator.proofs.Lawful.{err_anyway, card_idle, card_stays, card_handed, card_said_no, hands_none, hands_one}
use Rattle.card_propagator.specs.Cards.{WantsForAClause}
use Rattle.card_propagator.proofs.Knowing.{card_broken, card_refuted, card_left}
use Rattle.card_propagator.proofs.card.CardTheoryTheory.check.Goals as goal

pub returns-in_default-clause-called : goal.returns-in_default-clause-called
returns-in_default-clause-called c = card_idle c.args.self.now.counter _ _ _ _ _ refl c.next-self.ensures c.requires.step

pub returns-then-not-is_broken-clause-called : goal.returns-then-not-is_broken-clause-called
returns-then-not-is_broken-clause-called c = card_idle c.args.self.now.counter _ _ _ _ _ refl c.next-self.ensures c.requires.step

pub returns-in_err-hand_false-clause-called : goal.returns-in_err-hand_false-clause-called
returns-in_err-hand_false-clause-called c = card_stays c.args.self.now.counter _ _ _ _ _ _ c.in_err-hand_false.ensures.err refl c.next-self.ensures c.requires.step

pub returns-clause-called : goal.returns-clause-called
returns-clause-called c = card_handed c.args.self.now.counter _ _ _ _ c.in-Some.k _ _ refl c.next-self.ensures c.law_proper.ensures c.requires.step c.in-Some.ensures.some (c.is_broken.ensures c.if-not-is_broken.false) c.in_ok-hand_false.ensures.ok c.law_shape.ensures

pub returns-clause-no : goal.returns-clause-no
returns-clause-no c = λ _. card_said_no c.args.self.now.counter c.args.self.now.asked c.args.self.now.accepted c.in-Some.k _ _ _ c.law_proper.ensures c.requires.step c.requires.whole.agrees c.in_ok-hand_false.ensures.ok

pub returns-in_err-hand_false-clause-handed : goal.returns-in_err-hand_false-clause-handed
returns-in_err-hand_false-clause-handed c = hands_none _ _ c.in_err-hand_false.ensures.err

pub returns-clause-handed : goal.returns-clause-handed
returns-clause-handed c = hands_one c.args.self.now.counter c.args.self.now.counter c.args.self.now.asked c.args.self.now.accepted c.in-Some.k _ _ refl c.law_proper.ensures c.requires.step c.in_ok-hand_false.ensures.ok

pub returns-then-not-is_broken-clause-refused : goal.returns-then-not-is_broken-clause-refused
returns-then-not-is_broken-clause-refused c = λ all. card_refuted c.args.self.now.counter c.in-Some.k c.args.desk.now _ c.law_proper.ensures c.requires.whole all c.in-Some.ensures.some c.in-Some.ensures.unkept

pub returns-in_err-hand_false-clause-refused : goal.returns-in_err-hand_false-clause-refused
returns-in_err-hand_false-clause-refused c = err_anyway _ (WantsForAClause c.args.self.now.counter.rules c.args.desk.now) (λ _. card_broken c.args.self.now.counter c.args.self.now.asked c.args.self.now.accepted c.in-Some.k c.args.desk.now c.law_proper.ensures c.requires.step c.in-Some.ensures.some (c.is_broken.ensures c.if-not-is_broken.false))

pub returns-clause-rejected : goal.returns-clause-rejected
returns-clause-rejected c = λ _. card_left c.args.self.now.counter c.args.self.now.counter c.args.self.now.asked c.args.self.now.accepted c.in-Some.k _ _ refl c.law_proper.ensures c.requires.step c.in-Some.ensures.some (c.is_broken.ensures c.if-not-is_broken.false) c.in_ok-hand_false.ensures.ok
