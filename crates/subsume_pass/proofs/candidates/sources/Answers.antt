use Rattle.std.proofs.Common.{◌≡◌, ◌≤◌, length, arith}
use Rattle.clause_store.specs.Stored.{slot, slot_lits}
use Rattle.subsume_pass.proofs.Sourcing.{sources_of, sourcing_more}
use Rattle.subsume_pass.proofs.candidates.sources.Goals as goal

pub returns : goal.returns
returns c =
    let past : length c.get-lit-items.result.now ≤ c.loop-lit.lit-index = omega arith in
    let is : c.get-lit-items.result.now ≡ slot_lits (slot c.args.kernel.now.store c.args.id) = rw c.store.ensures at c.get-lit-items.ensures.value in
    sources_of c.args.kernel.now.store c.args.id c.get-lit-items.result.now c.loop-lit.lit-index c.loop-lit.ids.items is past c.loop-lit.invariant

pub loop-lit-preserved : goal.loop-lit-preserved
loop-lit-preserved c =
    sourcing_more c.args.kernel.now.store c.args.id c.get-lit-items.result.now c.loop-lit.lit-index c.lit-item.result c.loop-lit.ids.items c.gather.new.ids.items c.gather-in-loop-lit.new.ids.items c.get-lit-items.ensures.normal c.loop-lit-test.true c.lit-item.is c.loop-lit.invariant c.in_ok-gather.ensures (rw c.neg.ensures at c.in_ok-gather-2.ensures)
