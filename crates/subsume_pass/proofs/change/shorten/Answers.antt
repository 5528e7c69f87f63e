use Rattle.std.proofs.Common.{◌≡◌, List, ℕ, ap, ◌∙◌}
use Rattle.std.specs.List.{remove}
use Rattle.clause_store.specs.Stored.{slot, slot_lits}
use Rattle.pass_terms.specs.Ruled.Ruled.{none}
use Rattle.subsume_pass.proofs.Clauses.{normal_removed, removed_has}
use Rattle.subsume_pass.proofs.Changing.{implied_cut, cuts}
use Rattle.pass_terms.proofs.Shortening.{drops_longer, known_new, ruled_next, ruled_same}
use Rattle.subsume_pass.proofs.change.shorten.Goals as goal

pub returns-in_err-lits-clause-ruled : goal.returns-in_err-lits-clause-ruled
returns-in_err-lits-clause-ruled c = none

pub add_implied-requires-clause-normal : goal.add_implied-requires-clause-normal
add_implied-requires-clause-normal c =
    let is : c.get.result.now ≡ slot_lits (slot c.args.kernel.now.store c.args.id) = rw c.store.ensures at c.get.ensures.value in
    let new : c.as_slice.result.now ≡ remove (slot_lits (slot c.args.kernel.now.store c.args.id)) c.args.at = c.as_slice.ensures.value ∙ c.remove.ensures.items ∙ ap (λ (z : List ℕ). remove z c.args.at) (c.in_ok-lits.ensures.items ∙ is) in
    rw new (normal_removed (slot_lits (slot c.args.kernel.now.store c.args.id)) c.args.at c.requires.within (rw is at c.get.ensures.normal))

pub add_implied-requires-clause-implied : goal.add_implied-requires-clause-implied
add_implied-requires-clause-implied c =
    let is : c.get.result.now ≡ slot_lits (slot c.args.kernel.now.store c.args.id) = rw c.store.ensures at c.get.ensures.value in
    let new : c.as_slice.result.now ≡ remove (slot_lits (slot c.args.kernel.now.store c.args.id)) c.args.at = c.as_slice.ensures.value ∙ c.remove.ensures.items ∙ ap (λ (z : List ℕ). remove z c.args.at) (c.in_ok-lits.ensures.items ∙ is) in
    rw new (implied_cut c.args.kernel.now.store c.args.by c.args.id c.args.at c.requires.by c.requires.id c.requires.within c.requires.resolves)

pub returns-in_err-next-clause-ruled : goal.returns-in_err-next-clause-ruled
returns-in_err-next-clause-ruled c = ruled_same c.args.kernel.now c.add_implied.new.self c.in_err-next.ensures.err

pub drop_implied-requires-clause-implied : goal.drop_implied-requires-clause-implied
drop_implied-requires-clause-implied c =
    let is : c.get.result.now ≡ slot_lits (slot c.args.kernel.now.store c.args.id) = rw c.store.ensures at c.get.ensures.value in
    let new : c.as_slice.result.now ≡ remove (slot_lits (slot c.args.kernel.now.store c.args.id)) c.args.at = c.as_slice.ensures.value ∙ c.remove.ensures.items ∙ ap (λ (z : List ℕ). remove z c.args.at) (c.in_ok-lits.ensures.items ∙ is) in
    drops_longer c.args.kernel.now.store c.add_implied.new.self.store c.args.id c.in_ok-next.next (remove (slot_lits (slot c.args.kernel.now.store c.args.id)) c.args.at) c.requires.id
    (λ l h. removed_has (slot_lits (slot c.args.kernel.now.store c.args.id)) c.args.at l c.requires.within h) (rw new at c.in_ok-next.ensures.ok).store

pub returns-clause-ruled : goal.returns-clause-ruled
returns-clause-ruled c =
    let is : c.get.result.now ≡ slot_lits (slot c.args.kernel.now.store c.args.id) = rw c.store.ensures at c.get.ensures.value in
    let new : c.as_slice.result.now ≡ remove (slot_lits (slot c.args.kernel.now.store c.args.id)) c.args.at = c.as_slice.ensures.value ∙ c.remove.ensures.items ∙ ap (λ (z : List ℕ). remove z c.args.at) (c.in_ok-lits.ensures.items ∙ is) in
    ruled_next c.args.kernel.now c.add_implied.new.self c.drop_implied.new.self c.args.id c.in_ok-next.next (remove (slot_lits (slot c.args.kernel.now.store c.args.id)) c.args.at)
    (known_new c.args.kernel.now c.args.id (remove (slot_lits (slot c.args.kernel.now.store c.args.id)) c.args.at) c.requires.id (λ l h. removed_has (slot_lits (slot c.args.kernel.now.store c.args.id)) c.args.at l c.requires.within h))
    (rw new at c.in_ok-next.ensures.ok) c.drop_implied.ensures

pub returns-clause-cut : goal.returns-clause-cut
returns-clause-cut c =
    let is : c.get.result.now ≡ slot_lits (slot c.args.kernel.now.store c.args.id) = rw c.store.ensures at c.get.ensures.value in
    let new : c.as_slice.result.now ≡ remove (slot_lits (slot c.args.kernel.now.store c.args.id)) c.args.at = c.as_slice.ensures.value ∙ c.remove.ensures.items ∙ ap (λ (z : List ℕ). remove z c.args.at) (c.in_ok-lits.ensures.items ∙ is) in
    cuts c.args.kernel.now c.add_implied.new.self c.drop_implied.new.self c.args.by c.args.id c.in_ok-next.next c.args.at c.requires.other c.requires.by c.requires.id
    (rw is at c.get.ensures.normal) c.requires.within c.requires.resolves (rw new at c.in_ok-next.ensures.ok) c.drop_implied.ensures
