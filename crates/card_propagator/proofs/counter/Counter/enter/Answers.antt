use Rattle.std.proofs.Common.{rules, arith, ◌≡◌, ◌≤◌, ◌<◌, ◌+◌, ◌^◌, ◌∙◌, ◌∷◌, ◌++◌, [], sym, ap, subst, length, true, false, Bool, ℕ, eqb, ◌||◌}
use Rattle.user_propagator.specs.Meaning.{counted_lits}
use Rattle.sat_terms.specs.Literal.{has, var_of}
use Rattle.clause_store.specs.Listing.{times}
use Rattle.clause_store.specs.Lists.{occ_at, Gains}
use Rattle.card_propagator.specs.Counting.{Counting}
use Rattle.card_propagator.proofs.Admitting.{kept_relisted, kept_roomier, kept_enter, gains_appended}
use Rattle.card_propagator.proofs.counter.Counter.enter.Goals as goal

pub invariant_of-self-in_err-add : goal.invariant_of-self-in_err-add
invariant_of-self-in_err-add c =
    let room : c.self.inside.queue.room ≤ c.reach.new.self.room = let r = c.in_ok-reach.ensures.room in omega (arith, r) in
    rw (c.reserve_all.ensures.rules, c.reserve_all.ensures.true_counts, c.reserve_all.ensures.false_counts, c.reserve_all.ensures.heavy, c.reserve_all.ensures.starts)
    (kept_relisted _ _ _ _ _ _ _ _ _ _ _ _ (kept_roomier _ _ _ _ _ _ _ _ _ _ _ _ c.self.invariant c.reach.ensures.members room) c.in_err-add.ensures.err)

pub invariant_of-self-2 : goal.invariant_of-self-2
invariant_of-self-2 c =
    let gains = gains_appended c.self.inside.holders c.add.new.self (counted_lits c.args.rule) c.new-id.result (rw c.lits_of-2.ensures at c.in_ok-add.ensures.ok) in
    let room : c.self.inside.queue.room ≤ c.reach.new.self.room = let r = c.in_ok-reach.ensures.room in omega (arith, r) in
    let wide : c.new-id.result + 1 ≤ c.reach.new.self.room = let r = c.in_ok-reach.ensures.room in omega (arith, r) in
    let known : ((l : ℕ) → 0 < times (counted_lits c.args.rule) l → (0 < var_of l) × (var_of l < length c.self.inside.table.items)) = subst (λ (x : Counting). (l : ℕ) → 0 < times (counted_lits c.args.rule) l → (0 < var_of l) × (var_of l < length x.table)) (sym c.self.view_is) c.requires.known in
    let size : c.new-id.result ≡ length c.self.inside.rules.items = search rules in
    let fits : length (counted_lits c.args.rule) < 2 ^ 63 = rw (← c.lits_of.ensures) (omega (arith, c.lits_of.type_inv)) in
    kept_enter _ _ _ _ _ _ _ _ _ _ _ _ _ _ _ _ _ _ _ _ _ _ _ c.self.invariant size known c.requires.card fits gains
    (c.append_rule.ensures ∙ ap (λ x. x ++ c.args.rule ∷ []) c.reserve_all.ensures.rules)
    (c.append.ensures ∙ ap (λ x. x ++ c.count_true-up.result ∷ []) c.reserve_all.ensures.true_counts)
    (c.append-2.ensures ∙ ap (λ x. x ++ c.count_false-down.result ∷ []) c.reserve_all.ensures.false_counts)
    (c.append-3.ensures ∙ ap (λ x. x ++ c.in_ok-most.most ∷ []) c.reserve_all.ensures.heavy)
    (c.append_zero.ensures ∙ ap (λ x. x ++ 0 ∷ []) c.reserve_all.ensures.starts)
    (rw (c.deref.ensures.value, c.lits_of-3.ensures) at c.count_true-up.ensures)
    (rw (c.deref-2.ensures.value, c.lits_of-4.ensures) at c.count_false-down.ensures)
    (rw c.lits_of.ensures at c.in_ok-most.ensures)
    (rw c.put.ensures.room (omega (arith, wide)))
    (rw c.put.ensures.room room)
    (λ k. c.put.ensures.members k ∙ ap (λ ids. has ids k || eqb c.new-id.result k) c.reach.ensures.members)
