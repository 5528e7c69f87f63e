use Rattle.std.proofs.Common.{rules, ◌≡◌, ◌≤◌, ◌<◌, ◌+◌, ◌∷◌, ◌++◌, ◌||◌, [], ℕ, Bool, true, false, length, arith, List, Option, None, Some, vec_capacity, vec_len, sym, ap, ◌∙◌, get_or, ltb, refl, subst, slice_set}
use Rattle.std.proofs.lemmas.List.{get_or_read}
use Rattle.sat_terms.specs.Literal.{has, var_of, neg}
use Rattle.card_propagator.specs.declared.told.Told.{Told}
use Rattle.clause_store.specs.Listing.{times}
use Rattle.clause_store.specs.Lists.{occ_at}
use Rattle.card_propagator.specs.Values.{told}
use Rattle.card_propagator.specs.Counting.{Counting, AreStacked, Undone, height}
use Rattle.card_propagator.proofs.Keeping.{kept_undo, top-within, held-within, holders-within, last_off, ups_enough, downs_enough, all_low}
use Rattle.card_propagator.proofs.counter.Counter.undo.Goals as goal

pub index-requires : goal.index-requires
index-requires c =
    let shape : c.self.inside.stack.items ≡ c.in-Some.ensures.0 ++ c.in-Some.var ∷ [] = sym c.deref.ensures.value ∙ c.in-Some.ensures.1 in
    let stacked : AreStacked c.self.inside.table.items (c.in-Some.ensures.0 ++ c.in-Some.var ∷ []) c.self.inside.level = subst (λ x. AreStacked c.self.inside.table.items x c.self.inside.level) shape c.self.invariant.stacked in
    let lt : c.in-Some.var < length c.self.inside.table.items = top-within _ _ _ _ stacked in
    search rules

pub returns-then-told-level-clause-stays : goal.returns-then-told-level-clause-stays
returns-then-told-level-clause-stays c =
    let shape : c.self.inside.stack.items ≡ c.in-Some.ensures.0 ++ c.in-Some.var ∷ [] = sym c.deref.ensures.value ∙ c.in-Some.ensures.1 in
    let stacked : AreStacked c.self.inside.table.items (c.in-Some.ensures.0 ++ c.in-Some.var ∷ []) c.self.inside.level = subst (λ x. AreStacked c.self.inside.table.items x c.self.inside.level) shape c.self.invariant.stacked in
    let is : told c.self.inside.table.items c.in-Some.var ≡ Some c.in-Some-index.told = sym (get_or_read _ _ _ (top-within _ _ _ _ stacked) c.index.ensures None) ∙ c.in-Some-index.is in
    let low : height (told c.self.inside.table.items c.in-Some.var) ≤ c.args.level = rw is c.if-told-level.true in
    λ _. (refl, subst (λ (x : Counting). (v : ℕ) → height (told x.table v) ≤ c.args.level) c.self.view_is (all_low _ _ _ _ _ stacked low))

pub index_mut-requires : goal.index_mut-requires
index_mut-requires c =
    let shape : c.self.inside.stack.items ≡ c.in-Some.ensures.0 ++ c.in-Some.var ∷ [] = sym c.deref.ensures.value ∙ c.in-Some.ensures.1 in
    let stacked : AreStacked c.self.inside.table.items (c.in-Some.ensures.0 ++ c.in-Some.var ∷ []) c.self.inside.level = subst (λ x. AreStacked c.self.inside.table.items x c.self.inside.level) shape c.self.invariant.stacked in
    let lt : c.in-Some.var < length c.self.inside.table.items = top-within _ _ _ _ stacked in
    search rules

pub count_down-requires : goal.count_down-requires
count_down-requires c =
    let shape : c.self.inside.stack.items ≡ c.in-Some.ensures.0 ++ c.in-Some.var ∷ [] = sym c.deref.ensures.value ∙ c.in-Some.ensures.1 in
    let stacked : AreStacked c.self.inside.table.items (c.in-Some.ensures.0 ++ c.in-Some.var ∷ []) c.self.inside.level = subst (λ x. AreStacked c.self.inside.table.items x c.self.inside.level) shape c.self.invariant.stacked in
    let is : told c.self.inside.table.items c.in-Some.var ≡ Some c.in-Some-index.told = sym (get_or_read _ _ _ (top-within _ _ _ _ stacked) c.index.ensures None) ∙ c.in-Some-index.is in
    rw c.at-risen.ensures (ups_enough _ _ _ _ _ _ _ c.self.invariant.held c.self.invariant.counted is (c.self.invariant.stacked.own _ _ is))

pub put_each-requires : goal.put_each-requires
put_each-requires c = λ k w. let lt = holders-within _ _ _ c.in-Some-index.told.lit c.self.invariant.held k (rw (← c.at-risen.ensures) w) in omega (arith, lt, c.self.invariant.settled.room)

pub count_down-requires-2 : goal.count_down-requires-2
count_down-requires-2 c =
    let shape : c.self.inside.stack.items ≡ c.in-Some.ensures.0 ++ c.in-Some.var ∷ [] = sym c.deref.ensures.value ∙ c.in-Some.ensures.1 in
    let stacked : AreStacked c.self.inside.table.items (c.in-Some.ensures.0 ++ c.in-Some.var ∷ []) c.self.inside.level = subst (λ x. AreStacked c.self.inside.table.items x c.self.inside.level) shape c.self.invariant.stacked in
    let is : told c.self.inside.table.items c.in-Some.var ≡ Some c.in-Some-index.told = sym (get_or_read _ _ _ (top-within _ _ _ _ stacked) c.index.ensures None) ∙ c.in-Some-index.is in
    rw (c.at-fallen.ensures, c.neg.ensures) (downs_enough _ _ _ _ _ _ _ c.self.invariant.held c.self.invariant.counted is (c.self.invariant.stacked.own _ _ is))

pub reset-requires : goal.reset-requires
reset-requires c = λ k pos. rw c.self.invariant.passed.size (held-within _ _ _ k c.in-Some-index.told.lit c.self.invariant.held (rw (← c.at-risen.ensures) pos))

pub reset-requires-2 : goal.reset-requires-2
reset-requires-2 c = λ k pos. rw (c.reset.ensures.size, c.self.invariant.passed.size) (held-within _ _ _ k c.neg.result c.self.invariant.held (rw (← c.at-fallen.ensures) pos))

pub invariant_of-self : goal.invariant_of-self
invariant_of-self c =
    let shape : c.self.inside.stack.items ≡ c.in-Some.ensures.0 ++ c.in-Some.var ∷ [] = sym c.deref.ensures.value ∙ c.in-Some.ensures.1 in
    let stacked : AreStacked c.self.inside.table.items (c.in-Some.ensures.0 ++ c.in-Some.var ∷ []) c.self.inside.level = subst (λ x. AreStacked c.self.inside.table.items x c.self.inside.level) shape c.self.invariant.stacked in
    let is : told c.self.inside.table.items c.in-Some.var ≡ Some c.in-Some-index.told = sym (get_or_read _ _ _ (top-within _ _ _ _ stacked) c.index.ensures None) ∙ c.in-Some-index.is in
    let size : vec_len c.self.inside.stack ≡ length c.self.inside.stack.items = sym c.deref.ensures.len ∙ ap length c.deref.ensures.value in
    let rest : c.pop.new.self.items ≡ c.in-Some.ensures.0 = c.pop.ensures.rest ∙ last_off _ _ _ _ shape size in
    let off : c.self.inside.stack.items ≡ c.pop.new.self.items ++ c.in-Some.var ∷ [] = shape ∙ ap (λ x. x ++ c.in-Some.var ∷ []) (sym rest) in
    let down : c.at-fallen.result.now ≡ occ_at c.self.inside.holders (neg c.in-Some-index.told.lit) = c.at-fallen.ensures ∙ ap (occ_at c.self.inside.holders) c.neg.ensures in
    kept_undo _ _ _ _ _ _ _ _ _ _ _ _ _ _ _ _ _ _ _ _ c.self.invariant is off (omega (arith, c.pop.ensures.capacity))
    c.count_down.ensures.size (λ k. rw c.at-risen.ensures at (c.count_down.ensures.less k))
    c.count_down-2.ensures.size (λ k. rw down at (c.count_down-2.ensures.less k))
    c.reset.ensures.size (λ k. rw c.at-risen.ensures at (c.reset.ensures.cleared k))
    c.reset-2.ensures.size (λ k. rw down at (c.reset-2.ensures.cleared k))
    c.put_each.ensures.room (λ k. rw c.at-risen.ensures at (c.put_each.ensures.members k))

pub returns-clause-undone : goal.returns-clause-undone
returns-clause-undone c =
    let shape : c.self.inside.stack.items ≡ c.in-Some.ensures.0 ++ c.in-Some.var ∷ [] = sym c.deref.ensures.value ∙ c.in-Some.ensures.1 in
    let stacked : AreStacked c.self.inside.table.items (c.in-Some.ensures.0 ++ c.in-Some.var ∷ []) c.self.inside.level = subst (λ x. AreStacked c.self.inside.table.items x c.self.inside.level) shape c.self.invariant.stacked in
    let is : told c.self.inside.table.items c.in-Some.var ≡ Some c.in-Some-index.told = sym (get_or_read _ _ _ (top-within _ _ _ _ stacked) c.index.ensures None) ∙ c.in-Some-index.is in
    let high : c.args.level < height (told c.self.inside.table.items c.in-Some.var) = rw is c.if-told-level.false in
    let same : c.self.inside.table.items ≡ c.args.self.now.table = ap (λ (x : Counting). x.table) c.self.view_is in
    λ _. (
      rw (← same) (let u : Undone c.self.inside.table.items (slice_set c.self.inside.table.items c.in-Some.var None) c.args.level = record { var = c.in-Some.var; high = high; table = refl } in u),
      ap (λ (x : Counting). x.rules) c.self.view_is,
      ap (λ (x : Counting). x.level) c.self.view_is,
    )
