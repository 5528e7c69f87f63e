use Rattle.std.proofs.Common.{rules, arith, ◌≡◌, ◌≤◌, ◌<◌, ◌+◌, ◌-◌, ◌∙◌, ◌∷◌, ◌++◌, [], sym, ap, subst, refl, length, true, false, not, Bool, ℕ, Some, None, Option, take, cond, get_or, All, Contains}
use Rattle.user_propagator.specs.Meaning.{counted_lits}
use Rattle.std.proofs.lemmas.Bool.{ltb-true}
use Rattle.card_propagator.specs.Values.{falses}
use Rattle.card_propagator.specs.Counting.{lits_at, bound_at, bound_of}
use Rattle.card_propagator.specs.Due.{IsBroken}
use Rattle.card_propagator.proofs.Finding.{falses-le}
use Rattle.card_propagator.proofs.clauses.is_broken.Goals as goal

pub overflow_sub-result : goal.overflow_sub-result
overflow_sub-result c =
    let same : lits_at c.args.counter.now.rules c.args.k ≡ c.lits_of.result.now = ap counted_lits (sym c.rule-rule.ensures) ∙ sym c.lits_of.ensures in
    let le = falses-le c.args.counter.now.table (lits_at c.args.counter.now.rules c.args.k) in
    let e = ap length same in
    omega (arith, c.false_count.ensures, le, e)

pub returns : goal.returns
returns c = λ h.
    let same : lits_at c.args.counter.now.rules c.args.k ≡ c.lits_of.result.now = ap counted_lits (sym c.rule-rule.ensures) ∙ sym c.lits_of.ensures in
    let b : bound_at c.args.counter.now.rules c.args.k ≡ c.bound.result = ap bound_of (sym c.rule-rule.ensures) ∙ sym c.bound.ensures in
    let e = ap length same in
    let lt = ltb-true _ _ h in
    record { short = omega (arith, c.false_count.ensures, b, e, lt) }
