use Rattle.std.proofs.Common.{◌≡◌, ◌∙◌, ap, length, take, arith}
use Rattle.std.proofs.lemmas.List.{length-map, take_all}
use Rattle.conflict_analysis.proofs.Turns.{marking_none, resolving_begin}
use Rattle.conflict_analysis.proofs.analysis.begin.Goals as goal

pub mark_all-requires-clause-marking : goal.mark_all-requires-clause-marking
mark_all-requires-clause-marking c =
    let same : length c.lits-len.result.now ≡ length c.args.trail.now.steps = ap length c.lits-len.ensures ∙ length-map c.args.trail.now.steps (λ x. x.lit) in
    let cleared = c.clear.ensures in
    let reached = c.reach.ensures in
    rw same (marking_none c.args.trail.now c.reach.new.self (omega (arith, c.declared.ensures, c.in_ok-reach.ensures.long)) (λ v. reached.seen v ∙ cleared.none v) (reached.count ∙ cleared.count) (reached.lits ∙ cleared.lits) (reached.met ∙ cleared.met))

pub mark_all-requires-clause-are_false : goal.mark_all-requires-clause-are_false
mark_all-requires-clause-are_false c =
    let same : length c.lits-len.result.now ≡ length c.args.trail.now.steps = ap length c.lits-len.ensures ∙ length-map c.args.trail.now.steps (λ x. x.lit) in
    let all : take (length c.args.trail.now.steps) c.args.trail.now.steps ≡ c.args.trail.now.steps = take_all (length c.args.trail.now.steps) c.args.trail.now.steps (omega arith) in
    rw (same, all, c.get.ensures.value) (λ l h off. c.requires.is_false l h)

pub returns : goal.returns
returns c =
    let same : length c.lits-len.result.now ≡ length c.args.trail.now.steps = ap length c.lits-len.ensures ∙ length-map c.args.trail.now.steps (λ x. x.lit) in
    let cleared = c.clear.ensures in
    let reached = c.reach.ensures in
    resolving_begin c.args.store.now c.args.trail.now c.args.conflict c.get.result.now c.mark_all.new.self c.law_shape.ensures c.requires.live c.get.ensures.value c.requires.above
    (rw c.get.ensures.value c.requires.reaches) (rw c.get.ensures.value c.requires.is_false) (rw same at c.in_ok-mark_all.ensures.marking) (rw same at c.in_ok-mark_all.ensures.covered) (rw (reached.met ∙ cleared.met) at c.in_ok-mark_all.ensures.from)
