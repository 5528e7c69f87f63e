use Rattle.std.proofs.Common.{rules, arith, ◌≡◌, ◌≤◌, ◌<◌, ◌+◌, ◌-◌, ◌∙◌, ◌∷◌, ◌++◌, [], sym, ap, subst, refl, length, true, false, not, Bool, ℕ, Some, None, Option, take, cond, get_or, All, Contains}
use Rattle.user_propagator.specs.Meaning.{counted_lits}
use Rattle.sat_terms.specs.Literal.{var_of}
use Rattle.user_propagator.specs.Board.{trail_place, trail_of}
use Rattle.card_propagator.specs.Counting.{lits_at}
use Rattle.user_propagator.specs.Meaning.{StandsAt, IsReasonGiven}
use Rattle.card_propagator.specs.Cards.{fallen, card_meaning}
use Rattle.card_propagator.proofs.Valuing.{follows}
use Rattle.card_propagator.proofs.Lawful.{card_idle, card_reason, ok_map, has_place, has_reason}
use Rattle.card_propagator.proofs.card.CardTheoryTheory.reason.Goals as goal

pub returns-in_err-push-clause-called : goal.returns-in_err-push-clause-called
returns-in_err-push-clause-called c = card_idle c.args.self.now.counter _ _ _ _ _ refl c.next-self.ensures c.requires.step

pub returns-clause-called : goal.returns-clause-called
returns-clause-called c = card_idle c.args.self.now.counter _ _ _ _ _ refl c.next-self.ensures c.requires.step

pub returns-clause-given : goal.returns-clause-given
returns-clause-given c =
    let h : trail_place c.args.desk.now.seen (var_of c.args.lit) ≡ Some c.in-Some.place = ap (trail_place c.args.desk.now.seen) (sym c.var.ensures.value) ∙ sym c.place_of.ensures ∙ c.in-Some.is in
    let before = fallen (take c.in-Some.place c.args.desk.now.seen) in
    let lits : c.lits_of.result.now ≡ lits_at c.args.self.now.counter.rules c.in-Some-find_reason.k = c.lits_of.ensures ∙ ap counted_lits c.rule.ensures in
    let one : c.push.new.self ≡ c.args.lit ∷ [] = c.in_ok-push.ensures.ok ∙ ap (λ x. x ++ c.args.lit ∷ []) c.requires.empty in
    let given : c.add_fallen.new.out ≡ c.push.new.self ++ before c.lits_of.result.now → (k : ℕ) → StandsAt (card_meaning c.args.self.now.counter c.args.self.now.asked c.args.self.now.accepted) c.args.desk.now.seen k c.args.lit → IsReasonGiven (card_meaning c.args.self.now.counter c.next-self.result c.args.self.now.accepted) c.args.desk.now.seen k c.args.lit c.add_fallen.new.out =
    λ is k s. card_reason c.args.self.now.counter c.args.self.now.counter c.args.self.now.asked c.args.self.now.accepted _ c.in-Some-find_reason.k c.in-Some.place k c.args.lit c.args.desk.now _ refl c.law_proper.ensures c.requires.step h c.in-Some-find_reason.ensures.within c.in-Some-find_reason.ensures.forced (is ∙ ap (λ x. x ++ before c.lits_of.result.now) one ∙ ap (λ x. c.args.lit ∷ before x) lits) s in
    ok_map _ _ _ given c.add_fallen.ensures

pub unreachable-requires : goal.unreachable-requires
unreachable-requires c =
    let h : trail_place c.args.desk.now.seen (var_of c.args.lit) ≡ None = ap (trail_place c.args.desk.now.seen) (sym c.var.ensures.value) ∙ sym c.place_of.ensures ∙ c.in_default.is in
    let f = follows c.args.self.now.counter.table c.args.self.now.counter.level (trail_of c.args.desk.now) c.requires.step in
    has_place (card_meaning c.args.self.now.counter c.args.self.now.asked c.args.self.now.accepted) c.args.desk.now.seen c.requires.explained.0 c.args.lit f.apart c.requires.explained.1 h

pub unreachable-requires-in_default-find_reason : goal.unreachable-requires-in_default-find_reason
unreachable-requires-in_default-find_reason c =
    let h : trail_place c.args.desk.now.seen (var_of c.args.lit) ≡ Some c.in-Some.place = ap (trail_place c.args.desk.now.seen) (sym c.var.ensures.value) ∙ sym c.place_of.ensures ∙ c.in-Some.is in
    has_reason c.args.self.now.counter c.args.self.now.asked c.args.self.now.accepted c.requires.explained.0 c.in-Some.place c.args.lit c.args.desk.now c.requires.step c.requires.explained.1 h c.in_default-find_reason.ensures.none
