use Rattle.std.proofs.Common.{◌≡◌, ◌≤◌, ◌<◌, ◌&&◌, ◌∙◌, ℕ, not, eqb, length, ap, sym, refl, rules}
use Rattle.std.specs.Prelude.{filter}
use Rattle.std.proofs.lemmas.Fn.{filter_same}
use Rattle.sat_terms.specs.Literal.{has}
use Rattle.watch_lists.specs.Watching.{copy}
use Rattle.watch_lists.specs.Propagation.{ids_of}
use Rattle.watch_lists.proofs.Marking.{has-ids_of}
use Rattle.sat_terms.proofs.Members.{has_without}
use Rattle.watch_lists.proofs.Placings.{few_left}
use Rattle.watch_lists.proofs.Detaching.{held_true, follows_taken, follows_unlisted}
use Rattle.watch_lists.proofs.watches.Watches.detach.Goals as goal

pub returns-then-holds-clause-attached : goal.returns-then-holds-clause-attached
returns-then-holds-clause-attached c =
    let less : (k : ℕ) → has (ids_of c.remove.new.self) k ≡ (has (ids_of c.self.inside.attached) k && not (eqb k c.args.id)) = λ k. has-ids_of c.remove.new.self k ∙ c.remove.ensures k ∙ ap (λ b. b && not (eqb k c.args.id)) (sym (has-ids_of c.self.inside.attached k)) in
    rw (← c.self.view_is) less

pub returns-then-holds-clause-follows : goal.returns-then-holds-clause-follows
returns-then-holds-clause-follows c =
    let less : (k : ℕ) → has (ids_of c.remove.new.self) k ≡ (has (ids_of c.self.inside.attached) k && not (eqb k c.args.id)) = λ k. has-ids_of c.remove.new.self k ∙ c.remove.ensures k ∙ ap (λ b. b && not (eqb k c.args.id)) (sym (has-ids_of c.self.inside.attached k)) in
    let kept : c.retain.new.self.items ≡ filter (λ y. not (eqb y c.args.id)) c.self.inside.waiting.items = filter_same _ _ _ (λ x b f' r. search rules) _ _ c.retain.ensures.filtered in
    let fewer : (k : ℕ) → has c.retain.new.self.items k ≡ (has c.self.inside.waiting.items k && not (eqb k c.args.id)) = λ k. ap (λ z. has z k) kept ∙ has_without c.self.inside.waiting.items c.args.id k in
    let two : 2 ≤ length (copy c.self.inside.copies c.args.id) = held_true c.holds.result _ (rw c.index-at.ensures at c.holds.ensures) c.if-holds.true in
    rw (← c.self.view_is) (λ t h. follows_taken _ _ c.take_out.new.lists.items _ t c.args.id c.index-clause-0.result c.index-clause-1.result less fewer two (rw (c.get-clause.ensures, c.index-at.ensures) at c.index-clause-0.is) (rw (c.get-clause.ensures, c.index-at.ensures) at c.index-clause-1.is) c.take_out.ensures c.take_out-then-holds.ensures (rw c.index-at.ensures at c.remove-then-holds.ensures) refl refl refl h)

pub returns-clause-attached : goal.returns-clause-attached
returns-clause-attached c =
    let less : (k : ℕ) → has (ids_of c.remove.new.self) k ≡ (has (ids_of c.self.inside.attached) k && not (eqb k c.args.id)) = λ k. has-ids_of c.remove.new.self k ∙ c.remove.ensures k ∙ ap (λ b. b && not (eqb k c.args.id)) (sym (has-ids_of c.self.inside.attached k)) in
    rw (← c.self.view_is) less

pub returns-clause-follows : goal.returns-clause-follows
returns-clause-follows c =
    let less : (k : ℕ) → has (ids_of c.remove.new.self) k ≡ (has (ids_of c.self.inside.attached) k && not (eqb k c.args.id)) = λ k. has-ids_of c.remove.new.self k ∙ c.remove.ensures k ∙ ap (λ b. b && not (eqb k c.args.id)) (sym (has-ids_of c.self.inside.attached k)) in
    let kept : c.retain.new.self.items ≡ filter (λ y. not (eqb y c.args.id)) c.self.inside.waiting.items = filter_same _ _ _ (λ x b f' r. search rules) _ _ c.retain.ensures.filtered in
    let fewer : (k : ℕ) → has c.retain.new.self.items k ≡ (has c.self.inside.waiting.items k && not (eqb k c.args.id)) = λ k. ap (λ z. has z k) kept ∙ has_without c.self.inside.waiting.items c.args.id k in
    let kept' : c.retain-2.new.self.items ≡ filter (λ y. not (eqb y c.args.id)) c.self.inside.short.items = filter_same _ _ _ (λ x b f' r. search rules) _ _ c.retain-2.ensures.filtered in
    let shorter : (k : ℕ) → has c.retain-2.new.self.items k ≡ (has c.self.inside.short.items k && not (eqb k c.args.id)) = λ k. ap (λ z. has z k) kept' ∙ has_without c.self.inside.short.items c.args.id k in
    let few : length (copy c.self.inside.copies c.args.id) < 2 = few_left c.holds.result _ (rw c.index-at.ensures at c.holds.ensures) c.if-holds.false in
    rw (← c.self.view_is) (λ t h. follows_unlisted _ _ _ t c.args.id less fewer shorter few refl refl refl refl h)
