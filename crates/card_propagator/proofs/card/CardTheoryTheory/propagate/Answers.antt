use Rattle.std.proofs.Common.{inl, inr, rules, arith, ◌≡◌, ◌≤◌, ◌<◌, ◌+◌, ◌-◌, ◌∙◌, ◌∷◌, ◌++◌, [], sym, ap, subst, refl, length, true, false, not, Bool, ℕ, Some, None, Option, take, cond, get_or, All, Contains}
use Rattle.sat_terms.specs.Literal.{has, var_of}
use Rattle.card_propagator.proofs.Lawful.{err_anyway, card_idle, card_stays, card_handed, card_implied, card_quiet, handed_nothing, hands_none, hands_one}
use Rattle.card_propagator.specs.Cards.{WantsForAClause}
use Rattle.card_propagator.proofs.Knowing.{card_broken, card_observed, card_left}
use Rattle.std.proofs.lemmas.Bool.{true≢false}
use Rattle.card_propagator.proofs.card.CardTheoryTheory.propagate.Goals as goal

pub returns-in_err-hand_false-in-Broken-clause-called : goal.returns-in_err-hand_false-in-Broken-clause-called
returns-in_err-hand_false-in-Broken-clause-called c = card_stays c.args.self.now.counter _ _ _ _ _ _ c.in_err-hand_false-in-Broken.ensures.err c.search-found.ensures.same c.next-self.ensures c.requires.step

pub returns-then-not-is_observed-clause-called : goal.returns-then-not-is_observed-clause-called
returns-then-not-is_observed-clause-called c = card_idle c.args.self.now.counter _ _ _ _ _ c.search-found.ensures.same c.next-self.ensures c.requires.step

pub returns-in-Nothing-clause-called : goal.returns-in-Nothing-clause-called
returns-in-Nothing-clause-called c = card_idle c.args.self.now.counter _ _ _ _ _ c.search-found.ensures.same c.next-self.ensures c.requires.step

pub returns-in-Nothing-clause-none : goal.returns-in-Nothing-clause-none
returns-in-Nothing-clause-none c = λ _. card_quiet c.args.self.now.counter c.args.self.now.asked c.args.self.now.accepted c.args.desk.now c.law_proper.ensures c.requires.step c.in-Nothing.ensures.found

pub returns-in_ok-hand_false-in-Broken-clause-called : goal.returns-in_ok-hand_false-in-Broken-clause-called
returns-in_ok-hand_false-in-Broken-clause-called c = card_handed c.args.self.now.counter _ _ _ _ c.in-Broken.k _ _ c.search-found.ensures.same c.next-self.ensures c.law_proper.ensures c.requires.step c.in-Broken.ensures.found.0 c.in-Broken.ensures.found.1 c.in_ok-hand_false-in-Broken.ensures.ok c.law_shape.ensures

pub returns-else-not-is_observed-clause-called : goal.returns-else-not-is_observed-clause-called
returns-else-not-is_observed-clause-called c = card_idle c.args.self.now.counter _ _ _ _ _ c.search-found.ensures.same c.next-self.ensures c.requires.step

pub returns-else-not-is_observed-clause-propagated : goal.returns-else-not-is_observed-clause-propagated
returns-else-not-is_observed-clause-propagated c =
    let observed : has c.args.desk.now.observed (var_of c.in-Forced.lit) ≡ true = ap (has c.args.desk.now.observed) (sym c.var.ensures.value) ∙ sym c.is_observed.ensures ∙ c.if-not-is_observed.false in
    card_implied c.args.self.now.counter _ c.args.self.now.asked _ _ c.in-Forced.field-0 _ _ c.search-found.ensures.same c.law_proper.ensures c.requires.step c.in-Forced.ensures.found.0 c.in-Forced.ensures.found.1 observed

pub returns-in_err-hand_false-in-Broken-clause-handed : goal.returns-in_err-hand_false-in-Broken-clause-handed
returns-in_err-hand_false-in-Broken-clause-handed c = hands_none _ _ c.in_err-hand_false-in-Broken.ensures.err

pub returns-in_ok-hand_false-in-Broken-clause-handed : goal.returns-in_ok-hand_false-in-Broken-clause-handed
returns-in_ok-hand_false-in-Broken-clause-handed c = hands_one c.args.self.now.counter _ c.args.self.now.asked c.args.self.now.accepted c.in-Broken.k _ _ c.search-found.ensures.same c.law_proper.ensures c.requires.step c.in_ok-hand_false-in-Broken.ensures.ok

pub returns-in_err-hand_false-in-Broken-clause-refused : goal.returns-in_err-hand_false-in-Broken-clause-refused
returns-in_err-hand_false-in-Broken-clause-refused c = err_anyway _ (WantsForAClause c.args.self.now.counter.rules c.args.desk.now) (λ _. card_broken c.args.self.now.counter c.args.self.now.asked c.args.self.now.accepted c.in-Broken.k c.args.desk.now c.law_proper.ensures c.requires.step c.in-Broken.ensures.found.0 c.in-Broken.ensures.found.1)

pub returns-then-not-is_observed-clause-refused : goal.returns-then-not-is_observed-clause-refused
returns-then-not-is_observed-clause-refused c = λ all.
    let seen = card_observed c.args.self.now.counter.rules c.args.desk.now c.in-Forced.field-0 c.in-Forced.lit all c.in-Forced.ensures.found.0 c.in-Forced.ensures.found.1.holds in
    let unseen : has c.args.desk.now.observed (var_of c.in-Forced.lit) ≡ false = ap (has c.args.desk.now.observed) (sym c.var.ensures.value) ∙ sym c.is_observed.ensures ∙ c.if-not-is_observed.true in
    absurd (true≢false (sym seen ∙ unseen))

pub returns-in-Nothing-clause-left : goal.returns-in-Nothing-clause-left
returns-in-Nothing-clause-left c = inl (refl, card_quiet c.args.self.now.counter c.args.self.now.asked c.args.self.now.accepted c.args.desk.now c.law_proper.ensures c.requires.step c.in-Nothing.ensures.found)

pub returns-in_ok-hand_false-in-Broken-clause-left : goal.returns-in_ok-hand_false-in-Broken-clause-left
returns-in_ok-hand_false-in-Broken-clause-left c = inr (card_left c.args.self.now.counter _ c.args.self.now.asked c.args.self.now.accepted c.in-Broken.k _ _ c.search-found.ensures.same c.law_proper.ensures c.requires.step c.in-Broken.ensures.found.0 c.in-Broken.ensures.found.1 c.in_ok-hand_false-in-Broken.ensures.ok)
