use Rattle.std.proofs.Common.{◌<◌, ◌∙◌, ap, arith, length}
use Rattle.std.proofs.lemmas.List.{length-map}
use Rattle.assumption_core.proofs.Walking.{tracing_start, tracing_on, tracing_stop, tracing_ends, core_rest}
use Rattle.assumption_core.proofs.needs.Needs.trace_back.Goals as goal

pub walk-init : goal.walk-init
walk-init g c = tracing_start _ _ _ _ _ _ c.requires.ready c.requires.marked (ap length c.lits-place.ensures ∙ length-map c.args.trail.now.steps (λ x. x.lit))

pub walk-preserved : goal.walk-preserved
walk-preserved g c =
    let e = c.in_ok-resolve.ensures in
    let pos : 0 < c.walk.place = omega (arith, c.walk-test.true) in
    tracing_on _ _ _ _ _ _ _ _ _ c.walk.invariant _ _ _ pos e.asked e.ended e.ready e.falsified e.marked e.blocked

pub returns-in_err-resolve-clause-asked : goal.returns-in_err-resolve-clause-asked
returns-in_err-resolve-clause-asked g c =
    let pos : 0 < c.walk.place = omega (arith, c.walk-test.true) in
    tracing_stop _ _ _ _ _ _ _ _ _ c.walk.invariant _ pos c.resolve.ensures.asked

pub returns-clause-asked : goal.returns-clause-asked
returns-clause-asked g c = tracing_ends _ _ _ _ _ _ _ _ _ c.walk.invariant

pub returns-clause-blocked : goal.returns-clause-blocked
returns-clause-blocked g c = λ test b. core_rest _ c.args.trail.now.steps _ c.walk.place c.start_of-end.result c.walk.invariant.marked c.start_of-end.ensures c.walk-test.false (c.walk.invariant.blocked test b)
