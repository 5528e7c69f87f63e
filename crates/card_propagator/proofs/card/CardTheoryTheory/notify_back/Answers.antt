use Rattle.std.proofs.Common.{rules, arith, ◌≡◌, ◌≤◌, ◌<◌, ◌+◌, ◌-◌, ◌∙◌, ◌∷◌, ◌++◌, [], sym, ap, subst, refl, length, true, false, not, Bool, ℕ, Some, None, Option, take, cond, get_or, All, Contains}
use Rattle.user_propagator.specs.Board.{Board}
use Rattle.card_propagator.proofs.Lawful.{step_cut, level_below}
use Rattle.card_propagator.proofs.card.CardTheoryTheory.notify_back.Goals as goal

pub back-requires : goal.back-requires
back-requires c = level_below c.args.self.now.counter c.requires.step.0 c.args.level c.requires.step.1 c.requires.step.2

pub returns-clause-step : goal.returns-clause-step
returns-clause-step c = λ b h can. step_cut c.args.self.now.counter c.back.new.self c.args.self.now.asked 0 c.args.self.now.accepted b c.args.level c.back.ensures.table c.back.ensures.size c.back.ensures.level h
