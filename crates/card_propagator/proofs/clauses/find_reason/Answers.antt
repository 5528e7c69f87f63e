use Rattle.std.proofs.Common.{rules, arith, ◌≡◌, ◌≤◌, ◌<◌, ◌+◌, ◌-◌, ◌∙◌, ◌∷◌, ◌++◌, [], sym, ap, subst, refl, length, true, false, not, Bool, ℕ, Some, None, Option, take, cond, get_or, All, Contains, below_more}
use Rattle.clause_store.specs.Listing.{times}
use Rattle.card_propagator.specs.Counting.{lits_at, rule}
use Rattle.std.proofs.lemmas.Bool.{cases_lt}
use Rattle.card_propagator.specs.Cards.{is_forced}
use Rattle.card_propagator.proofs.Tallying.{item_at}
use Rattle.card_propagator.proofs.Lawful.{held_rule, holds_at, none_explains}
use Rattle.card_propagator.proofs.clauses.find_reason.Goals as goal

pub holds-requires-clause-within : goal.holds-requires-clause-within
holds-requires-clause-within c = held_rule c.args.counter.now.rules c.index-ids-i.result c.args.lit (rw (item_at _ _ _ c.loop-i-test.true c.index-ids-i.is) (holds_at _ _ _ _ c.loop-i-test.true c.holders-ids.ensures))

pub holds-requires-clause-held : goal.holds-requires-clause-held
holds-requires-clause-held c = rw (item_at _ _ _ c.loop-i-test.true c.index-ids-i.is) (holds_at _ _ _ _ c.loop-i-test.true c.holders-ids.ensures)

pub loop-i-preserved : goal.loop-i-preserved
loop-i-preserved c =
    let off : is_forced (take c.args.place c.args.desk.now.seen) c.args.lit (rule c.args.counter.now.rules c.index-ids-i.result) ≡ false = sym c.holds.ensures ∙ c.if-holds.false in
    below_more _ _ c.loop-i.invariant (rw (item_at _ _ _ c.loop-i-test.true c.index-ids-i.is) at off)

pub returns-clause-none : goal.returns-clause-none
returns-clause-none c = none_explains c.args.counter.now.rules c.holders-ids.result.now (take c.args.place c.args.desk.now.seen) c.args.lit c.holders-ids.ensures (λ (j : ℕ) (lt : j < length c.holders-ids.result.now). c.loop-i.invariant j (omega (arith, c.loop-i-test.false)))
