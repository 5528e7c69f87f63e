use Rattle.std.proofs.Common.{◌≡◌, ℕ, [], true}
use Rattle.sat_terms.specs.Literal.{has, neg}
use Rattle.sat_terms.specs.Normal.{IsNormal}
use Rattle.clause_store.specs.Stored.{slot, slot_lits}
use Rattle.subsume_pass.specs.Choosing.{Collects}
use Rattle.subsume_pass.proofs.Collecting.{candidates_of}
use Rattle.subsume_pass.proofs.candidates.candidates.Goals as goal

pub returns : goal.returns
returns c =
    let is : c.get.result.now ≡ slot_lits (slot c.args.kernel.now.store c.args.by) = rw c.store-3.ensures at c.get.ensures.value in
    let normal : (k : ℕ) → IsNormal (slot_lits (slot c.args.kernel.now.store k)) = rw c.store.ensures at c.law_normal.ensures in
    let there : has (slot_lits (slot c.args.kernel.now.store c.args.by)) c.rarest-lit.result ≡ true = rw is at c.rarest-lit.ensures in
    let a : Collects c.args.kernel.now.store c.args.by c.rarest-lit.result [] c.collect.new.ids.items = rw c.new-ids.ensures.items at c.in_ok-collect.ensures in
    let b : Collects c.args.kernel.now.store c.args.by (neg c.rarest-lit.result) c.collect.new.ids.items c.collect-2.new.ids.items = rw c.neg.ensures at c.in_ok-collect-2.ensures in
    candidates_of c.args.kernel.now.store c.args.by c.rarest-lit.result c.collect.new.ids.items c.collect-2.new.ids.items normal there a b
