use Rattle.std.proofs.Common.{rules, arith, ◌≡◌, ◌≤◌, ◌<◌, ◌+◌, ◌-◌, ◌∙◌, ◌∷◌, ◌++◌, [], sym, ap, subst, refl, length, true, false, not, Bool, ℕ, Some, None, Option, take, cond, get_or, All, Contains}
use Rattle.user_propagator.specs.Board.{Board}
use Rattle.card_propagator.proofs.Lawful.{step_raise, level_room}
use Rattle.card_propagator.proofs.card.CardTheoryTheory.notify_level.Goals as goal

pub raise-requires : goal.raise-requires
raise-requires c = level_room c.args.self.now.counter c.requires.step.0 c.requires.step.1 c.requires.step.2

pub returns-clause-step : goal.returns-clause-step
returns-clause-step c = λ b h can. step_raise c.args.self.now.counter _ c.args.self.now.asked 0 c.args.self.now.accepted b c.raise.ensures h
