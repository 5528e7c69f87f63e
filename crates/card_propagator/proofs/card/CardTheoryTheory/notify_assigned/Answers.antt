use Rattle.std.proofs.Common.{rules, arith, ◌≡◌, ◌≤◌, ◌<◌, ◌+◌, ◌-◌, ◌∙◌, ◌∷◌, ◌++◌, [], sym, ap, subst, refl, length, true, false, not, Bool, ℕ, Some, None, Option, take, cond, get_or, All, Contains}
use Rattle.user_propagator.specs.Board.{Board}
use Rattle.card_propagator.proofs.Lawful.{put_free, step_put}
use Rattle.card_propagator.proofs.card.CardTheoryTheory.notify_assigned.Goals as goal

pub put-requires : goal.put-requires
put-requires c = λ pos. put_free c.args.self.now.counter c.requires.step.0 c.args.lit c.requires.step.1 c.requires.step.2.1 pos

pub returns-clause-step : goal.returns-clause-step
returns-clause-step c = λ b h can. step_put c.args.self.now.counter _ c.args.self.now.asked 0 c.args.self.now.accepted b _ _ c.put.ensures h can
