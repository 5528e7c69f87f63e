use Rattle.std.proofs.Common.{◌≡◌}
use Rattle.normal_form.specs.Forms.{IsFormOf, IsTautology}
use Rattle.clause_store.specs.Stored.{slot, slot_lits}
use Rattle.pass_terms.specs.Ruled.Ruled.{none}
use Rattle.equiv_subst.specs.Replacing.{renamed}
use Rattle.equiv_subst.proofs.Replacing.{implies_renamed, drops_renamed, drops_tautology, knows_renamed, renames_gone, renames_more, ruled_swap, ruled_dropped, ruled_same}
use Rattle.equiv_subst.proofs.replace.rename.Goals as goal

pub returns-in_err-lits-clause-ruled : goal.returns-in_err-lits-clause-ruled
returns-in_err-lits-clause-ruled c = none

pub returns-in_err-form-clause-ruled : goal.returns-in_err-form-clause-ruled
returns-in_err-form-clause-ruled c = none

pub add_implied-requires-clause-implied : goal.add_implied-requires-clause-implied
add_implied-requires-clause-implied c =
    let is : c.get.result.now ≡ slot_lits (slot c.args.kernel.now.store c.args.id) = rw c.store.ensures at c.get.ensures.value in
    let of : IsFormOf c.as_slice-in-Some.result.now (renamed c.args.p c.args.q c.get.result.now) = rw c.as_slice-in-Some.ensures (rw (c.in-Some.is, c.as_slice.ensures.value, c.in_ok-lits.ensures) at c.in_ok-form.ensures.some) in
    implies_renamed c.args.kernel.now.store c.args.id c.args.p c.args.q c.args.tie.now.forth c.args.tie.now.back c.get.result.now c.as_slice-in-Some.result.now c.requires.tied is c.requires.holds.firm of

pub returns-in_err-add_implied-in-Some-clause-ruled : goal.returns-in_err-add_implied-in-Some-clause-ruled
returns-in_err-add_implied-in-Some-clause-ruled c = ruled_same _ _ _ c.in_err-add_implied-in-Some.ensures.err

pub drop_implied-requires-clause-implied : goal.drop_implied-requires-clause-implied
drop_implied-requires-clause-implied c =
    let is : c.get.result.now ≡ slot_lits (slot c.args.kernel.now.store c.args.id) = rw c.store.ensures at c.get.ensures.value in
    let of : IsFormOf c.as_slice-in-Some.result.now (renamed c.args.p c.args.q c.get.result.now) = rw c.as_slice-in-Some.ensures (rw (c.in-Some.is, c.as_slice.ensures.value, c.in_ok-lits.ensures) at c.in_ok-form.ensures.some) in
    drops_renamed c.args.kernel.now.store c.add_implied.new.self.store c.args.id c.in_ok-add_implied-in-Some.field-0 c.args.p c.args.q c.args.tie.now.forth c.args.tie.now.back c.get.result.now c.as_slice-in-Some.result.now
    c.requires.tied is c.requires.holds.firm c.requires.other of c.in_ok-add_implied-in-Some.ensures.ok.store

pub returns-in-Some-clause-ruled : goal.returns-in-Some-clause-ruled
returns-in-Some-clause-ruled c =
    let is : c.get.result.now ≡ slot_lits (slot c.args.kernel.now.store c.args.id) = rw c.store.ensures at c.get.ensures.value in
    let of : IsFormOf c.as_slice-in-Some.result.now (renamed c.args.p c.args.q c.get.result.now) = rw c.as_slice-in-Some.ensures (rw (c.in-Some.is, c.as_slice.ensures.value, c.in_ok-lits.ensures) at c.in_ok-form.ensures.some) in
    ruled_swap c.args.kernel.now c.add_implied.new.self c.drop_implied.new.self c.as_slice-in-Some.result.now c.in_ok-add_implied-in-Some.field-0 c.args.id
    (knows_renamed c.args.kernel.now c.args.id c.args.p c.args.q c.args.tie.now.forth c.args.tie.now.back c.get.result.now c.as_slice-in-Some.result.now c.requires.tied is c.requires.holds.firm of)
    c.in_ok-add_implied-in-Some.ensures.ok c.drop_implied.ensures

pub returns-in-Some-clause-ok : goal.returns-in-Some-clause-ok
returns-in-Some-clause-ok c =
    let is : c.get.result.now ≡ slot_lits (slot c.args.kernel.now.store c.args.id) = rw c.store.ensures at c.get.ensures.value in
    let of : IsFormOf c.as_slice-in-Some.result.now (renamed c.args.p c.args.q c.get.result.now) = rw c.as_slice-in-Some.ensures (rw (c.in-Some.is, c.as_slice.ensures.value, c.in_ok-lits.ensures) at c.in_ok-form.ensures.some) in
    renames_more c.args.kernel.now.store c.add_implied.new.self.store c.drop_implied.new.self.store c.args.id c.in_ok-add_implied-in-Some.field-0 c.args.p c.args.q c.get.result.now c.as_slice-in-Some.result.now
    c.requires.holds c.get.ensures.normal is c.requires.apart of c.in_ok-add_implied-in-Some.ensures.ok.store c.drop_implied.ensures.store

pub drop_implied-requires-in-None-clause-implied : goal.drop_implied-requires-in-None-clause-implied
drop_implied-requires-in-None-clause-implied c =
    let is : c.get.result.now ≡ slot_lits (slot c.args.kernel.now.store c.args.id) = rw c.store.ensures at c.get.ensures.value in
    let taut : IsTautology (renamed c.args.p c.args.q c.get.result.now) = rw (c.in-None.is, c.as_slice.ensures.value, c.in_ok-lits.ensures) at c.in_ok-form.ensures.none in
    drops_tautology c.args.kernel.now.store c.args.id c.args.p c.args.q c.args.tie.now.forth c.args.tie.now.back c.get.result.now c.requires.tied is c.requires.other taut

pub returns-clause-ruled : goal.returns-clause-ruled
returns-clause-ruled c = ruled_dropped c.args.kernel.now c.drop_implied-in-None.new.self c.args.id c.drop_implied-in-None.ensures

pub returns-clause-ok : goal.returns-clause-ok
returns-clause-ok c = renames_gone c.args.kernel.now.store c.drop_implied-in-None.new.self.store c.args.id c.args.p c.requires.holds c.drop_implied-in-None.ensures.store
