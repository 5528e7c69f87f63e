use Rattle.std.proofs.Common.{rules, arith, ◌≡◌, ◌≤◌, ◌<◌, ◌+◌, ◌-◌, ◌∙◌, ◌∷◌, ◌++◌, [], sym, ap, subst, refl, length, true, false, not, Bool, ℕ, Some, None, Option, take, cond, get_or, All, Contains}
use Rattle.card_propagator.proofs.Valuing.{follows}
use Rattle.card_propagator.proofs.Lawful.{card_admitted, card_refused, card_kept_ok, card_kept_err, level_root, ok_map}
use Rattle.card_propagator.proofs.card.CardTheoryTheory.admit.Goals as goal

pub admit-requires-clause-root : goal.admit-requires-clause-root
admit-requires-clause-root c = level_root c.args.self.now.counter c.args.desk.now c.requires.step c.requires.root

pub admit-requires-clause-step : goal.admit-requires-clause-step
admit-requires-clause-step c = follows _ _ _ c.requires.step

pub returns-in_err-admit-clause-kept : goal.returns-in_err-admit-clause-kept
returns-in_err-admit-clause-kept c = card_kept_err c.args.self.now.counter c.admit.new.self _ _ _ c.in_err-admit.ensures.err c.in_err-admit.ensures.step

pub returns-clause-ok : goal.returns-clause-ok
returns-clause-ok c = card_admitted c.args.self.now.counter c.admit.new.self _ _ _ _ c.in_ok-admit.ensures.ok c.next-self.ensures

pub returns-clause-kept : goal.returns-clause-kept
returns-clause-kept c = card_kept_ok c.args.self.now.counter c.admit.new.self _ _ _ _ _ c.in_ok-admit.ensures.ok c.in_ok-admit.ensures.step
