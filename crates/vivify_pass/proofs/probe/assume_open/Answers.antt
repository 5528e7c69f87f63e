use Rattle.std.proofs.Common.{refl, arith}
use Rattle.vivify_pass.proofs.Trailing.{probes_more, looked_true, looked_open, conflict_fails, over_more}
use Rattle.vivify_pass.proofs.probe.assume_open.Goals as goal

pub returns-in-Some-true_one-clause-leaves : goal.returns-in-Some-true_one-clause-leaves
returns-in-Some-true_one-clause-leaves c =
    probes_more c.args.store.now c.args.id c.args.kept.now c.args.lit c.neg.result c.args.watches.now c.propagate.new.self c.args.trail.now c.decide.new.self c.propagate.new.trail _ c.requires.probes c.neg.ensures refl c.decide.ensures.steps c.decide.ensures.declared c.propagate.ensures.attached c.propagate.ensures.follows c.propagate.ensures.grown

pub returns-in-None-true_one-clause-leaves : goal.returns-in-None-true_one-clause-leaves
returns-in-None-true_one-clause-leaves c =
    probes_more c.args.store.now c.args.id c.args.kept.now c.args.lit c.neg.result c.args.watches.now c.propagate.new.self c.args.trail.now c.decide.new.self c.propagate.new.trail _ c.requires.probes c.neg.ensures refl c.decide.ensures.steps c.decide.ensures.declared c.propagate.ensures.attached c.propagate.ensures.follows c.propagate.ensures.grown

pub returns-in-Some-clause-looked : goal.returns-in-Some-clause-looked
returns-in-Some-clause-looked c =
    let p = probes_more c.args.store.now c.args.id c.args.kept.now c.args.lit c.neg.result c.args.watches.now c.propagate.new.self c.args.trail.now c.decide.new.self c.propagate.new.trail _ c.requires.probes c.neg.ensures refl c.decide.ensures.steps c.decide.ensures.declared c.propagate.ensures.attached c.propagate.ensures.follows c.propagate.ensures.grown in
    let k = rw c.in-Some.is at c.in_ok-propagate.ensures.conflict in
    conflict_fails c.args.store.now c.args.id _ c.args.watches.now.attached c.propagate.new.trail.steps c.in-Some.field-0 c.requires.probes.others p.forced k.0 k.1

pub returns-in-Some-true_one-clause-looked : goal.returns-in-Some-true_one-clause-looked
returns-in-Some-true_one-clause-looked c =
    let p = probes_more c.args.store.now c.args.id c.args.kept.now c.args.lit c.neg.result c.args.watches.now c.propagate.new.self c.args.trail.now c.decide.new.self c.propagate.new.trail _ c.requires.probes c.neg.ensures refl c.decide.ensures.steps c.decide.ensures.declared c.propagate.ensures.attached c.propagate.ensures.follows c.propagate.ensures.grown in
    let q = rw c.in-None.is at c.in_ok-propagate.ensures.quiet in
    looked_true c.args.store.now c.args.id _ c.args.watches.now.attached c.args.lits.now c.propagate.new.trail.steps c.in-Some-true_one.found c.requires.probes.others q p.given_true c.in-Some-true_one.ensures.some.0 c.in-Some-true_one.ensures.some.1

pub returns-in-None-true_one-clause-looked : goal.returns-in-None-true_one-clause-looked
returns-in-None-true_one-clause-looked c =
    let p = probes_more c.args.store.now c.args.id c.args.kept.now c.args.lit c.neg.result c.args.watches.now c.propagate.new.self c.args.trail.now c.decide.new.self c.propagate.new.trail _ c.requires.probes c.neg.ensures refl c.decide.ensures.steps c.decide.ensures.declared c.propagate.ensures.attached c.propagate.ensures.follows c.propagate.ensures.grown in
    let q = rw c.in-None.is at c.in_ok-propagate.ensures.quiet in
    looked_open c.args.store.now c.args.id _ c.args.watches.now.attached c.args.lits.now c.propagate.new.trail.steps c.requires.probes.others q p.given_true c.in-None-true_one.ensures.none

pub returns-in-Some-clause-over : goal.returns-in-Some-clause-over
returns-in-Some-clause-over c root h = over_more root c.args.store.now c.args.watches.now.attached c.args.trail.now c.decide.new.self c.propagate.new.trail _ c.decide.ensures.steps (omega arith) c.decide.ensures.level c.propagate.ensures.grown h

pub returns-in-Some-true_one-clause-over : goal.returns-in-Some-true_one-clause-over
returns-in-Some-true_one-clause-over c root h = over_more root c.args.store.now c.args.watches.now.attached c.args.trail.now c.decide.new.self c.propagate.new.trail _ c.decide.ensures.steps (omega arith) c.decide.ensures.level c.propagate.ensures.grown h

pub returns-in-None-true_one-clause-over : goal.returns-in-None-true_one-clause-over
returns-in-None-true_one-clause-over c root h = over_more root c.args.store.now c.args.watches.now.attached c.args.trail.now c.decide.new.self c.propagate.new.trail _ c.decide.ensures.steps (omega arith) c.decide.ensures.level c.propagate.ensures.grown h

pub returns-in_err-propagate-clause-over : goal.returns-in_err-propagate-clause-over
returns-in_err-propagate-clause-over c root h = over_more root c.args.store.now c.args.watches.now.attached c.args.trail.now c.decide.new.self c.propagate.new.trail _ c.decide.ensures.steps (omega arith) c.decide.ensures.level c.propagate.ensures.grown h
