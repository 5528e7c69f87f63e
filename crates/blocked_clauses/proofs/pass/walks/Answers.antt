use Rattle.std.proofs.Common.{◌≡◌}
use Rattle.rule_kernel.specs.Frozen.{is_frozen}
use Rattle.pass_terms.proofs.Ruling.{ruled_trans}
use Rattle.blocked_clauses.proofs.Passing.{not_through, passing_start, passing_through, passing_parked, passing_full, passing_end}
use Rattle.blocked_clauses.proofs.pass.walks.Goals as goal

pub walks-init : goal.walks-init
walks-init c = passing_start (is_frozen c.args.frozen.now) c.args.kernel.now c.args.limit

pub returns-in_err-place-clause-ruled : goal.returns-in_err-place-clause-ruled
returns-in_err-place-clause-ruled c =
    ruled_trans (is_frozen c.args.frozen.now) c.args.kernel.now c.walks.kernel c.walk_from.new.kernel c.walks.invariant.ruled c.walk_from.ensures.ruled

pub walks-preserved-in-Parked : goal.walks-preserved-in-Parked
walks-preserved-in-Parked c =
    passing_parked (is_frozen c.args.frozen.now) c.args.kernel.now c.walks.kernel c.walk_from.new.kernel c.walks.from c.walks.steps c.walk_from.new.steps c.args.limit c.walks.invariant
    c.in-Parked.place
    (λ h.
    let same : c.walks.kernel ≡ c.args.kernel.now = (c.walks.invariant.idle h).0 in
    let idle = c.in_ok-place.ensures.idle (rw same h) in
    not_through c.in-Parked.place (rw c.in-Parked.is at idle.2))
    c.walk_from.ensures.ruled (rw c.in-Parked.is at c.in_ok-place.ensures.walked)

pub returns-in-Full-clause-ruled : goal.returns-in-Full-clause-ruled
returns-in-Full-clause-ruled c =
    ruled_trans (is_frozen c.args.frozen.now) c.args.kernel.now c.walks.kernel c.walk_from.new.kernel c.walks.invariant.ruled c.walk_from.ensures.ruled

pub returns-in-Full-clause-ended : goal.returns-in-Full-clause-ended
returns-in-Full-clause-ended c =
    passing_full (is_frozen c.args.frozen.now) c.args.kernel.now c.walks.kernel c.walk_from.new.kernel c.walks.from c.walks.steps c.walk_from.new.steps c.args.limit c.walks.invariant
    (rw c.in-Full.is at c.in_ok-place.ensures.walked)

pub returns-then-from_front-clause-ruled : goal.returns-then-from_front-clause-ruled
returns-then-from_front-clause-ruled c =
    ruled_trans (is_frozen c.args.frozen.now) c.args.kernel.now c.walks.kernel c.walk_from.new.kernel c.walks.invariant.ruled c.walk_from.ensures.ruled

pub returns-then-from_front-clause-ended : goal.returns-then-from_front-clause-ended
returns-then-from_front-clause-ended c =
    passing_end (is_frozen c.args.frozen.now) c.walks.kernel c.walk_from.new.kernel c.walks.steps c.walk_from.new.steps c.args.limit c.law_promises.ensures
    (rw (c.in-Through.is, c.if-from_front.true) at c.in_ok-place.ensures.walked)

pub walks-preserved : goal.walks-preserved
walks-preserved c =
    passing_through (is_frozen c.args.frozen.now) c.args.kernel.now c.walks.kernel c.walk_from.new.kernel c.walks.from c.walks.steps c.walk_from.new.steps c.args.limit c.walks.invariant
    (λ h. c.if-from_front.false (c.walks.invariant.idle h).1)
    c.walk_from.ensures.ruled (rw c.in-Through.is at c.in_ok-place.ensures.walked)
