use Rattle.std.proofs.Common.{sym, ◌∙◌}
use Rattle.trail_state.proofs.Places.{place_some}
use Rattle.conflict_analysis.proofs.shorten.implied_place.Goals as goal

pub level_at-level-requires : goal.level_at-level-requires
level_at-level-requires c = (place_some _ _ _ (sym c.place_of.ensures ∙ c.in_ok-place.was)).0

pub returns-else-not-is_by_clause-clause-same : goal.returns-else-not-is_by_clause-clause-same
returns-else-not-is_by_clause-clause-same c = (place_some _ _ _ (sym c.place_of.ensures ∙ c.in_ok-place.was)).1 ∙ c.var.ensures.value
