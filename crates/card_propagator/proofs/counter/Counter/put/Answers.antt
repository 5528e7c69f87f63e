use Rattle.std.proofs.Common.{rules, ◌≡◌, ◌≤◌, ◌<◌, ◌+◌, ◌∷◌, ◌++◌, ◌||◌, [], ℕ, Bool, true, false, length, arith, List, Option, None, Some, vec_capacity, sym, ap, ◌∙◌, get_or, ltb, refl}
use Rattle.sat_terms.specs.Literal.{has, var_of, neg}
use Rattle.card_propagator.specs.declared.told.Told.{Told}
use Rattle.clause_store.specs.Listing.{times}
use Rattle.clause_store.specs.Lists.{occ_at}
use Rattle.card_propagator.specs.Values.{told}
use Rattle.card_propagator.specs.Counting.{Counting}
use Rattle.card_propagator.proofs.Keeping.{stacked_room, held-within, holders-within, ups_room, downs_room, kept_put}
use Rattle.card_propagator.proofs.counter.Counter.put.Goals as goal

pub push_above-requires : goal.push_above-requires
push_above-requires c =
    let lt : c.index-var.result < length c.self.inside.table.items = search rules in
    let own : c.index-var.result ≡ var_of c.args.lit = c.index-var.ensures.value ∙ c.var.ensures.value in
    let none : told c.self.inside.table.items c.index-var.result ≡ None = ap (λ (x : Counting). told x.table c.index-var.result) c.self.view_is ∙ ap (told c.args.self.now.table) own ∙ c.requires (omega (arith, c.index-var.ensures.range.0, own, c.index-var.ensures.value)) in
    stacked_room _ _ _ _ _ c.self.invariant.stacked lt none c.self.invariant.room

pub count_up-requires-clause-within : goal.count_up-requires-clause-within
count_up-requires-clause-within c = λ k pos. rw c.self.invariant.counted.up_size (held-within _ _ _ k c.args.lit c.self.invariant.held (rw (← c.at.ensures) pos))

pub count_up-requires-clause-room : goal.count_up-requires-clause-room
count_up-requires-clause-room c =
    let lt : c.index-var.result < length c.self.inside.table.items = search rules in
    let own : c.index-var.result ≡ var_of c.args.lit = c.index-var.ensures.value ∙ c.var.ensures.value in
    let none : told c.self.inside.table.items c.index-var.result ≡ None = ap (λ (x : Counting). told x.table c.index-var.result) c.self.view_is ∙ ap (told c.args.self.now.table) own ∙ c.requires (omega (arith, c.index-var.ensures.range.0, own, c.index-var.ensures.value)) in
    rw c.at.ensures (ups_room _ _ _ _ _ c.index-var.result (record { lit = c.args.lit; level = 0 }) c.self.invariant.held c.self.invariant.counted lt none (sym own))

pub count_up-requires-2-clause-within : goal.count_up-requires-2-clause-within
count_up-requires-2-clause-within c = λ k pos. rw c.self.invariant.counted.down_size (held-within _ _ _ k c.neg.result c.self.invariant.held (rw (← c.at-fallen.ensures) pos))

pub count_up-requires-2-clause-room : goal.count_up-requires-2-clause-room
count_up-requires-2-clause-room c =
    let lt : c.index-var.result < length c.self.inside.table.items = search rules in
    let own : c.index-var.result ≡ var_of c.args.lit = c.index-var.ensures.value ∙ c.var.ensures.value in
    let none : told c.self.inside.table.items c.index-var.result ≡ None = ap (λ (x : Counting). told x.table c.index-var.result) c.self.view_is ∙ ap (told c.args.self.now.table) own ∙ c.requires (omega (arith, c.index-var.ensures.range.0, own, c.index-var.ensures.value)) in
    rw (c.at-fallen.ensures, c.neg.ensures) (downs_room _ _ _ _ _ c.index-var.result (record { lit = c.args.lit; level = 0 }) c.self.invariant.held c.self.invariant.counted lt none (sym own))

pub put_each-requires : goal.put_each-requires
put_each-requires c = λ k w. let lt = holders-within _ _ _ c.neg.result c.self.invariant.held k (rw (← c.at-fallen.ensures) w) in omega (arith, lt, c.self.invariant.settled.room)

pub invariant_of-self : goal.invariant_of-self
invariant_of-self c =
    let lt : c.index-var.result < length c.self.inside.table.items = search rules in
    let own : c.index-var.result ≡ var_of c.args.lit = c.index-var.ensures.value ∙ c.var.ensures.value in
    let none : told c.self.inside.table.items c.index-var.result ≡ None = ap (λ (x : Counting). told x.table c.index-var.result) c.self.view_is ∙ ap (told c.args.self.now.table) own ∙ c.requires (omega (arith, c.index-var.ensures.range.0, own, c.index-var.ensures.value)) in
    let at : c.at.result.now ≡ occ_at c.self.inside.holders c.args.lit = c.at.ensures in
    let down : c.at-fallen.result.now ≡ occ_at c.self.inside.holders (neg c.args.lit) = c.at-fallen.ensures ∙ ap (occ_at c.self.inside.holders) c.neg.ensures in
    kept_put _ _ _ _ _ _ _ _ _ _ _ _ _ _ _ _ _ _ c.self.invariant lt none own c.push_above.ensures.items c.push_above.ensures.room
    c.count_up.ensures.size (λ k. c.count_up.ensures.more k ∙ ap (λ x. get_or c.self.inside.true_counts.items k 0 + times x k) at)
    c.count_up-2.ensures.size (λ k. c.count_up-2.ensures.more k ∙ ap (λ x. get_or c.self.inside.false_counts.items k 0 + times x k) down)
    c.put_each.ensures.room (λ k. c.put_each.ensures.members k ∙ ap (λ x. has c.self.inside.queue.members k || has x k) down)
