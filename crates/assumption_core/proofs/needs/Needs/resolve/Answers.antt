use Rattle.std.proofs.Common.{◌≡◌, true, arith}
use Rattle.rooted_trails.specs.Marks.{flag}
use Rattle.rooted_trails.proofs.Falses.{flag_read}
use Rattle.lazy_reasons.proofs.Rows.{asked_nothing}
use Rattle.assumption_core.proofs.Walking.{decided_stays, implied_place, core_resolved}
use Rattle.assumption_core.proofs.needs.Needs.resolve.Goals as goal

pub returns-then-not-index-clause-asked : goal.returns-then-not-index-clause-asked
returns-then-not-index-clause-asked g c = asked_nothing _ _

pub returns-then-is_decision-clause-asked : goal.returns-then-is_decision-clause-asked
returns-then-is_decision-clause-asked g c = asked_nothing _ _

pub returns-then-is_decision-clause-blocked : goal.returns-then-is_decision-clause-blocked
returns-then-is_decision-clause-blocked g c = λ test. decided_stays _ c.args.trail.now.steps c.args.self.now.places.items c.args.place _ c.is_decision.ensures c.if-is_decision.true

pub source_at-requires-clause-implied : goal.source_at-requires-clause-implied
source_at-requires-clause-implied g c =
    let long = c.requires.marked.long in
    let in' = c.requires.within in
    let on : flag c.args.self.now.places.items c.args.place ≡ true = flag_read c.args.self.now.places.items c.args.place _ _ (omega arith) c.index.ensures c.if-not-index.false in
    implied_place c.args.trail.now.steps c.args.self.now.places.items c.args.place _ c.requires.marked c.requires.within on c.is_decision.ensures c.if-is_decision.false

pub returns-clause-blocked : goal.returns-clause-blocked
returns-clause-blocked g c =
    core_resolved _ _ _ _ _ _ _ _ _ _ c.in_ok-reason.ensures.asked c.in_ok-reason.ensures.ready c.law_shape.ensures c.in_ok-reason.ensures.source c.lits.ensures c.mark_all.ensures.grows c.mark_all.ensures.covered
