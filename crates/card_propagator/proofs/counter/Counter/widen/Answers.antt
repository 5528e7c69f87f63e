use Rattle.std.proofs.Common.{rules, arith, ◌≡◌, ◌≤◌, ◌<◌, ◌+◌, ◌∙◌, sym, ap, subst, length, true, false, vec_capacity, inl, inr, ℕ}
use Rattle.card_propagator.specs.Following.{are_within, Follows}
use Rattle.user_propagator.specs.Board.{trail_of}
use Rattle.card_propagator.specs.Counting.{Counting}
use Rattle.card_propagator.proofs.Admitting.{kept_wider, follows_wider, known_of, on_ok_map}
use Rattle.card_propagator.proofs.counter.Counter.widen.Goals as goal

pub invariant_of-self-2 : goal.invariant_of-self-2
invariant_of-self-2 c =
    let low : are_within 0 c.args.desk.now.seen ≡ true = subst (λ (n : ℕ). are_within n c.args.desk.now.seen ≡ true) (sym c.requires.step.level ∙ c.requires.root) c.requires.step.within in
    let room : c.need_of-need.result ≤ vec_capacity c.reserve.new.self = search rules in
    let short : length c.grow_table.new.table.items ≤ vec_capacity c.reserve.new.self = elim c.grow_table.ensures.long [
      | inl le ↦ omega arith
      | inr same ↦ let e = ap length same in omega (arith, e, c.self.invariant.room, c.reserve.ensures.capacity)
    ] in
    rw c.reserve.ensures.items (kept_wider _ _ _ _ _ _ _ _ _ _ _ _ _ _ c.self.invariant c.grow_table.ensures.wider low short)

pub returns-clause-known : goal.returns-clause-known
returns-clause-known c = on_ok_map _ _ _ c.grow_table.ensures.ok (λ le. known_of _ _ _ c.need_of-need.ensures.known le)

pub returns-clause-step : goal.returns-clause-step
returns-clause-step c = follows_wider _ _ _ _ (subst (λ (x : Counting). Follows x.table x.level (trail_of c.args.desk.now)) (sym c.self.view_is) c.requires.step) c.grow_table.ensures.wider
