use Rattle.std.proofs.Common.{◌≡◌}
use Rattle.clause_store.specs.Stored.{slot, slot_lits}
use Rattle.pass_terms.specs.Ruled.Ruled.{none}
use Rattle.firm_terms.specs.Subsuming.{IsWithin, IsFree}
use Rattle.subsume_pass.proofs.Changing.{implied_within, ruled_drop, kept, drops}
use Rattle.subsume_pass.proofs.change.meet.Goals as goal

pub drop_implied-requires-clause-implied : goal.drop_implied-requires-clause-implied
drop_implied-requires-clause-implied c =
    let a : c.get.result.now ≡ slot_lits (slot c.args.kernel.now.store c.args.by) = rw c.store.ensures at c.get.ensures.value in
    let b : c.get-2.result.now ≡ slot_lits (slot c.args.kernel.now.store c.args.id) = rw c.store-2.ensures at c.get-2.ensures.value in
    let w : IsWithin (slot_lits (slot c.args.kernel.now.store c.args.by)) (slot_lits (slot c.args.kernel.now.store c.args.id)) = rw (c.in-Subsumes.is, a, b) at c.compare-fit.ensures in
    implied_within c.args.kernel.now.store c.args.by c.args.id c.requires.other c.requires.by w

pub returns-in-Apart-clause-ruled : goal.returns-in-Apart-clause-ruled
returns-in-Apart-clause-ruled c = none

pub returns-in-Apart-clause-changes : goal.returns-in-Apart-clause-changes
returns-in-Apart-clause-changes c =
    let a : c.get.result.now ≡ slot_lits (slot c.args.kernel.now.store c.args.by) = rw c.store.ensures at c.get.ensures.value in
    let b : c.get-2.result.now ≡ slot_lits (slot c.args.kernel.now.store c.args.id) = rw c.store-2.ensures at c.get-2.ensures.value in
    let w : IsFree (slot_lits (slot c.args.kernel.now.store c.args.by)) (slot_lits (slot c.args.kernel.now.store c.args.id)) = rw (c.in-Apart.is, a, b) at c.compare-fit.ensures in
    kept c.args.kernel.now c.args.by c.args.id w

pub returns-in-Subsumes-clause-ruled : goal.returns-in-Subsumes-clause-ruled
returns-in-Subsumes-clause-ruled c = ruled_drop c.args.kernel.now c.drop_implied.new.self c.args.id c.drop_implied.ensures

pub returns-in-Subsumes-clause-changes : goal.returns-in-Subsumes-clause-changes
returns-in-Subsumes-clause-changes c = drops c.args.kernel.now c.drop_implied.new.self c.args.by c.args.id c.requires.other c.requires.by c.drop_implied.ensures
