use Rattle.std.proofs.Common.{rules, arith, ◌≡◌, ◌≤◌, ◌<◌, ◌+◌, ◌-◌, ◌∙◌, ◌∷◌, ◌++◌, [], sym, ap, subst, refl, length, true, false, not, Bool, ℕ, Some, None, Option, take, cond, get_or, All, Contains}
use Rattle.card_propagator.proofs.Lawful.{card_idle}
use Rattle.card_propagator.proofs.card.CardTheoryTheory.decide.Goals as goal

pub returns-clause-called : goal.returns-clause-called
returns-clause-called c = card_idle c.args.self.now.counter _ _ _ _ _ refl c.next-self.ensures c.requires.step
