use Rattle.std.proofs.Common.{◌∙◌, ap, length}
use Rattle.std.proofs.lemmas.List.{length-map}
use Rattle.conflict_analysis.proofs.Turns.{walking_start, walking_stop, walking_ends, walking_on, resolved_here}
use Rattle.conflict_analysis.proofs.scratch.Scratch.find_uip.Goals as goal

pub walk-init : goal.walk-init
walk-init g c = walking_start _ _ _ _ _ c.requires.ready (ap length c.lits.ensures ∙ length-map c.args.trail.now.steps (λ x. x.lit)) c.requires.resolving

pub returns-in_err-resolve_at-clause-asked : goal.returns-in_err-resolve_at-clause-asked
returns-in_err-resolve_at-clause-asked g c = walking_stop _ _ _ _ _ _ c.walk.invariant _ c.resolve_at.ensures.asked

pub walk-preserved : goal.walk-preserved
walk-preserved g c = walking_on _ _ _ _ _ _ c.walk.invariant _ _ c.in_ok-resolve_at.ensures.asked c.in_ok-resolve_at.ensures.ended c.in_ok-resolve_at.ensures.ready c.in_ok-resolve_at.ensures.resolving

pub returns-clause-resolved : goal.returns-clause-resolved
returns-clause-resolved g c =
    let last = c.is_last.ensures.yes c.walk-test.false in
    resolved_here _ _ _ _ _ c.walk.invariant.resolving c.law_shape.ensures c.walk.invariant.within last.1 last.0

pub returns-clause-asked : goal.returns-clause-asked
returns-clause-asked g c = walking_ends _ _ _ _ _ _ c.walk.invariant
