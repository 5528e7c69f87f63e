use Rattle.std.proofs.Common.{◌≡◌, ℕ, not, eqb, ◌&&◌, ◌∙◌}
use Rattle.sat_terms.specs.Literal.{has}
use Rattle.watch_lists.specs.Propagation.{Follows}
use Rattle.vivify_pass.proofs.Rooting.{back_front, none_back}
use Rattle.vivify_pass.proofs.Turning.{probes_start, settled_others, declared_all, no_more_id, ready_same}
use Rattle.vivify_pass.proofs.trial.probe_alone.Goals as goal

pub probe-requires-clause-probes : goal.probe-requires-clause-probes
probe-requires-clause-probes c =
    probes_start c.args.store.now c.args.watches.now c.detach.new.self c.args.trail.now c.args.id c.requires.ready c.detach.ensures.attached (c.detach.ensures.follows c.args.trail.now c.requires.ready.follows) (rw c.requires.lits at c.requires.free)

pub probe-requires-clause-settled : goal.probe-requires-clause-settled
probe-requires-clause-settled c = settled_others c.args.store.now c.args.watches.now c.detach.new.self c.args.trail.now.steps c.args.id c.detach.ensures.attached c.requires.settled

pub probe-requires-clause-declared : goal.probe-requires-clause-declared
probe-requires-clause-declared c = rw c.requires.lits (declared_all c.args.store.now c.args.watches.now c.args.trail.now c.args.id c.requires.ready c.requires.firm)

pub returns-clause-ready : goal.returns-clause-ready
returns-clause-ready c =
    let att : (k : ℕ) → has c.cut.new.self.attached k ≡ (has c.args.watches.now.attached k && not (eqb k c.args.id)) = rw (c.cut.ensures.attached, c.probe.ensures.kept) c.detach.ensures.attached in
    let follows : Follows c.cut.new.self c.args.store.now c.back_to.new.self = c.cut.ensures.follows c.args.store.now c.probe.new.trail 0 c.probe.ensures.follows c.back_to.ensures in
    let front = back_front c.args.trail.now.steps c.probe.new.trail c.back_to.new.self c.probe.ensures.over c.back_to.ensures in
    ready_same c.args.store.now c.args.watches.now c.cut.new.self c.attach.new.self c.args.trail.now c.back_to.new.self c.args.id c.requires.ready c.requires.firm att c.in_ok-attach.ensures.ok
    (c.attach.ensures.declared ∙ c.cut.ensures.declared ∙ c.probe.ensures.lists ∙ c.detach.ensures.declared) (c.back_to.ensures.declared ∙ c.probe.ensures.declared) front.0 front.1 (c.attach.ensures.follows c.back_to.new.self follows)

pub returns-clause-free : goal.returns-clause-free
returns-clause-free c =
    let front = back_front c.args.trail.now.steps c.probe.new.trail c.back_to.new.self c.probe.ensures.over c.back_to.ensures in
    none_back c.args.lits.now c.args.trail.now.steps c.back_to.new.self.steps front.0 front.1 c.requires.free

pub attach-requires-clause-fresh : goal.attach-requires-clause-fresh
attach-requires-clause-fresh c =
    let att : (k : ℕ) → has c.cut.new.self.attached k ≡ (has c.args.watches.now.attached k && not (eqb k c.args.id)) = rw (c.cut.ensures.attached, c.probe.ensures.kept) c.detach.ensures.attached in
    no_more_id c.args.watches.now c.cut.new.self c.args.id att
