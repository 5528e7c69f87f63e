-- The level of the place is told first, and then its literal.
use Rattle.std.proofs.Common.{◌≤◌, ℕ, sym, subst}
use Rattle.theory_bridge.specs.Telling.{AreToldBelow}
use Rattle.theory_bridge.proofs.Walking.{level_within, told_below, raised_as, walks_on}
use Rattle.theory_bridge.proofs.bridge.Bridge.tell_place.Goals as goal

pub tell_levels-requires-clause-within : goal.tell_levels-requires-clause-within
tell_levels-requires-clause-within g c = subst (λ (n : ℕ). n ≤ c.args.trail.now.level) (sym c.level_at-level.ensures) (level_within c.args.trail.now c.args.place c.law_shape.ensures c.requires.inside)

pub tell_levels-requires-clause-below : goal.tell_levels-requires-clause-below
tell_levels-requires-clause-below g c = subst (λ (n : ℕ). AreToldBelow c.args.self.now.desk c.args.trail.now n) (sym c.level_at-level.ensures) (told_below c.args.trail.now c.args.place _ c.law_shape.ensures c.requires.walks c.requires.inside)

pub tell_due-requires-clause-walks : goal.tell_due-requires-clause-walks
tell_due-requires-clause-walks g c = raised_as c.args.trail.now c.args.place _ _ c.level_at-level.result c.level_at-level.ensures c.law_shape.ensures c.requires.walks c.requires.inside c.in_ok-tell_levels.ensures.on c.in_ok-tell_levels.ensures.desk c.in_ok-tell_levels.ensures.high

pub returns-clause-on : goal.returns-clause-on
returns-clause-on g c = walks_on c.args.trail.now _ _ _ c.in_ok-tell_levels.ensures.on c.tell_due.ensures.on
