use Rattle.std.proofs.Common.{◌≡◌, false, eqb, bit_and, sym, ◌∙◌}
use Rattle.clause_store.specs.Stored.{slot, slot_lits}
use Rattle.subsume_pass.proofs.Collecting.{apart_signed, apart_longer}
use Rattle.subsume_pass.proofs.candidates.are_apart.Goals as goal

pub returns-then-not-may_fit : goal.returns-then-not-may_fit
returns-then-not-may_fit c =
    let n : eqb (bit_and c.signature.result c.signature-2.result) c.signature.result ≡ false = sym c.may_fit.ensures ∙ c.if-not-may_fit.true in
    λ _. apart_signed c.args.kernel.now.store c.args.by c.args.id c.signature.result c.signature-2.result c.signature.ensures c.signature-2.ensures n

pub returns : goal.returns
returns c =
    let d : c.get-len.result.now ≡ slot_lits (slot c.args.kernel.now.store c.args.id) = rw c.store.ensures at c.get-len.ensures.value in
    let e : c.get.result.now ≡ slot_lits (slot c.args.kernel.now.store c.args.by) = rw c.store-2.ensures at c.get.ensures.value in
    λ y. apart_longer c.args.kernel.now.store c.args.by c.args.id c.get.result.now c.get-len.result.now e d c.get.ensures.normal c.get-len.ensures.normal y
