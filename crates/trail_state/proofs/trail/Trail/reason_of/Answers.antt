use Rattle.std.proofs.Common.{◌≡◌, ◌∙◌, Some, sym, ap}
use Rattle.trail_state.proofs.Places.{reason_none, reason_at, place_some}
use Rattle.trail_state.proofs.trail.Trail.reason_of.Goals as goal

pub returns-in_err-place : goal.returns-in_err-place
returns-in_err-place c = c.from_residual.ensures ∙ sym (reason_none _ _ (sym c.in_err-place.ensures))

pub reason_at-requires : goal.reason_at-requires
reason_at-requires c = (place_some _ _ _ (sym c.in_ok-place.ensures)).0

pub returns : goal.returns
returns c = ap (λ x. Some x) c.reason_at.ensures ∙ sym (reason_at _ _ _ (sym c.in_ok-place.ensures))
