use Rattle.std.proofs.Common.{◌≡◌, ◌≤◌, length, sym, ◌∙◌, arith}
use Rattle.std.proofs.lemmas.Bool.{false≢true}
use Rattle.clause_store.specs.Stored.{slot, slot_lits}
use Rattle.clause_store.specs.Listing.{HasEachOnce, holds_at}
use Rattle.subsume_pass.specs.Choosing.{begins}
use Rattle.subsume_pass.proofs.Sourcing.{gathering_push, gathering_skip, gathered}
use Rattle.subsume_pass.proofs.candidates.gather.Goals as goal
use Rattle.subsume_pass.proofs.candidates.gather.Goals.{then-begins_with+in_ok-push, else-begins_with}

pub loop-by-preserved-then-are_apart : goal.loop-by-preserved-then-are_apart
loop-by-preserved-then-are_apart c =
    gathering_skip c.args.kernel.now.store c.args.id c.args.lit c.occ-by-items.result.now c.loop-by.by-index c.by-item.result c.args.ids.now.items c.loop-by.ids.items c.loop-by-test.true c.by-item.is (λ _. c.are_apart.ensures c.if-are_apart.true) c.loop-by.invariant

pub loop-by-preserved : goal.loop-by-preserved
loop-by-preserved c =
    let is : c.get.result.now ≡ slot_lits (slot c.args.kernel.now.store c.by-item.result) = rw c.store-in-loop-by.ensures at c.get.ensures.value in
    let tells : c.begins_with.result ≡ begins (slot_lits (slot c.args.kernel.now.store c.by-item.result)) c.args.lit = rw is at c.begins_with.ensures in
    elim c.if-begins_with.branch [
      | then-begins_with+in_ok-push w ↦
          rw w.ids-is (gathering_push c.args.kernel.now.store c.args.id c.args.lit c.occ-by-items.result.now c.loop-by.by-index c.by-item.result c.args.ids.now.items c.loop-by.ids.items w.push.new.self.items c.loop-by-test.true c.by-item.is c.loop-by.invariant w.in_ok-push.ensures.items (sym tells ∙ w.if-begins_with.true))
      | else-begins_with w ↦
          rw w.ids-is (gathering_skip c.args.kernel.now.store c.args.id c.args.lit c.occ-by-items.result.now c.loop-by.by-index c.by-item.result c.args.ids.now.items c.loop-by.ids.items c.loop-by-test.true c.by-item.is (λ y. absurd (false≢true (sym w.if-begins_with.false ∙ tells ∙ y))) c.loop-by.invariant)
    ]

pub returns : goal.returns
returns c =
    let past : length c.occ-by-items.result.now ≤ c.loop-by.by-index = omega arith in
    let each : HasEachOnce (holds_at c.args.kernel.now.store c.args.lit) c.occ-by-items.result.now = rw c.store.ensures at c.occ-by-items.ensures in
    gathered c.args.kernel.now.store c.args.id c.args.lit c.occ-by-items.result.now c.loop-by.by-index c.args.ids.now.items c.loop-by.ids.items each past c.loop-by.invariant
