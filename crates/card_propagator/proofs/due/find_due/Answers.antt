use Rattle.std.proofs.Common.{rules, arith, ◌≡◌, ◌≤◌, ◌<◌, ◌∙◌, ap, subst, length, get_or}
use Rattle.std.proofs.lemmas.List.{get_or_read}
use Rattle.user_propagator.specs.Meaning.{counted_lits}
use Rattle.card_propagator.specs.Counting.{rule, lits_at, bound_at, bound_of, no_rule}
use Rattle.card_propagator.proofs.Finding.{settled_pop, passed_keep}
use Rattle.card_propagator.specs.declared.due.Look.{Look}
use Rattle.card_propagator.specs.declared.due.Look.TheVariants.{Settled}
use Rattle.card_propagator.specs.Due.{IsLook}
use Rattle.card_propagator.proofs.due.find_due.Goals as goal

pub examine-look-requires-clause-heavy : goal.examine-look-requires-clause-heavy
examine-look-requires-clause-heavy c = λ l.
    let lt : c.index-k.result < length c.args.rules.now = rw c.index-k.ensures (c.loop-id.invariant.settled.within c.in-Some.id c.in-Some.ensures.some.waited) in
    let same : c.lits_of.result.now ≡ lits_at c.args.rules.now c.index-k.result = c.lits_of.ensures ∙ ap counted_lits (get_or_read _ _ _ lt c.index-rules-k.is no_rule) in
    rw same (c.requires.heavy.weighs c.index-k.result l)

pub loop-id-preserved : goal.loop-id-preserved
loop-id-preserved c =
    let lt : c.index-k.result < length c.args.rules.now = rw c.index-k.ensures (c.loop-id.invariant.settled.within c.in-Some.id c.in-Some.ensures.some.waited) in
    let here = get_or_read _ _ _ lt c.index-rules-k.is no_rule in
    let lits : c.lits_of.result.now ≡ lits_at c.args.rules.now c.index-k.result = c.lits_of.ensures ∙ ap counted_lits here in
    let bound : c.bound.result ≡ bound_at c.args.rules.now c.index-k.result = c.bound.ensures ∙ ap bound_of here in
    let look : IsLook c.args.table.now c.bound.result c.lits_of.result.now Settled = subst (λ (x : Look). IsLook c.args.table.now c.bound.result c.lits_of.result.now x) c.in-Settled.is c.examine-look.ensures.look in
    record {
      settled = settled_pop _ _ _ _ c.in-Some.id c.loop-id.invariant.settled c.in-Some.ensures.some (rw c.index-k.ensures at (rw (bound, lits) at look));
      passed = passed_keep _ _ _ _ c.index-k.result _ c.loop-id.invariant.passed lt c.keep_place.ensures (rw lits at c.examine-look.ensures.passed);
    }
