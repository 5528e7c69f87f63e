-- Up to the literal that was told last all was told.
use Rattle.std.proofs.Common.{ℕ, subst}
use Rattle.trail_state.specs.Trail.{IsStart}
use Rattle.theory_bridge.proofs.Walking.{walks_from_last}
use Rattle.theory_bridge.proofs.bridge.Bridge.first_due.Goals as goal

pub returns-then-was_told : goal.returns-then-was_told
returns-then-was_told g c = walks_from_last c.args.trail.now _ c.start_of-start.result c.args.self.now.last c.law_shape.ensures c.requires.step c.requires.follows (subst (λ (n : ℕ). IsStart c.args.trail.now.steps n c.start_of-start.result) c.level.ensures c.start_of-start.ensures) (c.was_told.ensures c.if-was_told.true)
