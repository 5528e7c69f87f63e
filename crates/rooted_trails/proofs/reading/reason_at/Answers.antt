use Rattle.rooted_trails.proofs.Implied.{no_decision, no_theory, reason_live, reason_value, reason_is, reason_known, reason_from}
use Rattle.rooted_trails.proofs.reading.reason_at.Goals as goal

pub unreachable-requires : goal.unreachable-requires
unreachable-requires c = no_decision c.args.store.now c.args.trail.now.steps c.args.place _ c.requires.reasons c.requires.implied c.reason_at.ensures c.in-Decision.is

pub unreachable-requires-in-Theory : goal.unreachable-requires-in-Theory
unreachable-requires-in-Theory c = no_theory c.args.store.now c.args.trail.now.steps c.args.place _ c.requires.reasons c.requires.implied c.reason_at.ensures c.in-Theory.is

pub get-requires : goal.get-requires
get-requires c = reason_live c.args.store.now c.args.trail.now.steps c.args.place _ c.requires.reasons c.requires.implied c.reason_at.ensures _ c.in-Clause.is

pub returns-clause-value : goal.returns-clause-value
returns-clause-value c = reason_value c.args.store.now c.args.trail.now.steps c.args.place _ c.requires.reasons c.requires.implied c.reason_at.ensures _ c.in-Clause.is _ c.get.ensures.value

pub returns-clause-reason : goal.returns-clause-reason
returns-clause-reason c = reason_is c.args.store.now c.args.trail.now.steps c.args.place _ c.requires.reasons c.requires.implied c.reason_at.ensures _ c.in-Clause.is _ c.get.ensures.value

pub returns-clause-known : goal.returns-clause-known
returns-clause-known c = reason_known c.args.store.now c.args.trail.now.steps c.args.place _ c.requires.reasons c.requires.implied c.reason_at.ensures _ c.in-Clause.is _ c.get.ensures.value

pub returns-clause-from : goal.returns-clause-from
returns-clause-from c = reason_from c.args.store.now c.args.trail.now.steps c.args.place _ c.requires.reasons c.requires.implied c.reason_at.ensures _ c.in-Clause.is _ c.get.ensures.value
