use Rattle.std.proofs.Common.{◌≡◌}
use Rattle.clause_store.specs.Stored.{slot, slot_lits}
use Rattle.subsume_pass.specs.Changing.{Cut, Drops}
use Rattle.firm_terms.proofs.Emptying.{refuted_at}
use Rattle.subsume_pass.proofs.Trying.{TakenOff, keeps_gone, keeps_came, leaves_none, alters_gone, alters_came, free_of_next, ruled_settled}
use Rattle.subsume_pass.proofs.turn.meet_due.Goals as goal

pub settle_fresh-requires : goal.settle_fresh-requires
settle_fresh-requires c =
    let cut : Cut c.args.kernel.now c.meet.new.kernel c.args.by c.args.id c.in-Came.next = rw c.in-Came.is at c.in_ok-meet.ensures.changes in
    free_of_next c.args.kernel.now c.meet.new.kernel c.args.by c.args.id c.in-Came.next c.requires.id c.requires.fresh c.law_promises.ensures cut

pub returns-then-count-eq0-clause-ruled : goal.returns-then-count-eq0-clause-ruled
returns-then-count-eq0-clause-ruled c = ruled_settled c.args.kernel.now c.meet.new.kernel c.settle_fresh.new.self c.meet.ensures.ruled c.settle_fresh.ensures.rest

pub returns-then-count-eq0-clause-keeps : goal.returns-then-count-eq0-clause-keeps
returns-then-count-eq0-clause-keeps c =
    let cut : Cut c.args.kernel.now c.meet.new.kernel c.args.by c.args.id c.in-Came.next = rw c.in-Came.is at c.in_ok-meet.ensures.changes in
    let settles : TakenOff c.meet.new.kernel c.settle_fresh.new.self c.in-Came.next = record { same = c.settle_fresh.ensures.rest; due = c.settle_fresh.ensures.due; fresh = c.settle_fresh.ensures.fresh } in
    keeps_came c.args.kernel.now c.meet.new.kernel c.settle_fresh.new.self c.args.by c.args.id c.in-Came.next c.requires.other c.requires.by c.requires.fresh cut settles

pub returns-then-count-eq0-clause-effects : goal.returns-then-count-eq0-clause-effects
returns-then-count-eq0-clause-effects c =
    let cut : Cut c.args.kernel.now c.meet.new.kernel c.args.by c.args.id c.in-Came.next = rw c.in-Came.is at c.in_ok-meet.ensures.changes in
    let is : c.get-count.result.now ≡ slot_lits (slot c.settle_fresh.new.self.store c.in-Came.next) = rw c.store.ensures at c.get-count.ensures.value in
    refuted_at c.settle_fresh.new.self.store c.in-Came.next c.get-count.result.now (rw c.settle_fresh.ensures.rest.store cut.came) is c.if-count-eq0.true

pub returns-in-Gone-clause-keeps : goal.returns-in-Gone-clause-keeps
returns-in-Gone-clause-keeps c =
    let d : Drops c.args.kernel.now c.meet.new.kernel c.args.id = rw c.in-Gone.is at c.in_ok-meet.ensures.changes in
    keeps_gone c.args.kernel.now c.meet.new.kernel c.args.by c.args.id c.requires.other c.requires.fresh d

pub returns-in-Gone-clause-effects : goal.returns-in-Gone-clause-effects
returns-in-Gone-clause-effects c =
    let d : Drops c.args.kernel.now c.meet.new.kernel c.args.id = rw c.in-Gone.is at c.in_ok-meet.ensures.changes in
    alters_gone c.args.kernel.now c.meet.new.kernel c.args.by c.args.id c.requires.other c.requires.fresh d

pub returns-else-count-eq0-clause-ruled : goal.returns-else-count-eq0-clause-ruled
returns-else-count-eq0-clause-ruled c = ruled_settled c.args.kernel.now c.meet.new.kernel c.settle_fresh.new.self c.meet.ensures.ruled c.settle_fresh.ensures.rest

pub returns-else-count-eq0-clause-keeps : goal.returns-else-count-eq0-clause-keeps
returns-else-count-eq0-clause-keeps c =
    let cut : Cut c.args.kernel.now c.meet.new.kernel c.args.by c.args.id c.in-Came.next = rw c.in-Came.is at c.in_ok-meet.ensures.changes in
    let settles : TakenOff c.meet.new.kernel c.settle_fresh.new.self c.in-Came.next = record { same = c.settle_fresh.ensures.rest; due = c.settle_fresh.ensures.due; fresh = c.settle_fresh.ensures.fresh } in
    keeps_came c.args.kernel.now c.meet.new.kernel c.settle_fresh.new.self c.args.by c.args.id c.in-Came.next c.requires.other c.requires.by c.requires.fresh cut settles

pub returns-else-count-eq0-clause-effects : goal.returns-else-count-eq0-clause-effects
returns-else-count-eq0-clause-effects c =
    let cut : Cut c.args.kernel.now c.meet.new.kernel c.args.by c.args.id c.in-Came.next = rw c.in-Came.is at c.in_ok-meet.ensures.changes in
    let settles : TakenOff c.meet.new.kernel c.settle_fresh.new.self c.in-Came.next = record { same = c.settle_fresh.ensures.rest; due = c.settle_fresh.ensures.due; fresh = c.settle_fresh.ensures.fresh } in
    alters_came c.args.kernel.now c.meet.new.kernel c.settle_fresh.new.self c.args.by c.args.id c.in-Came.next c.requires.other c.requires.by c.requires.fresh cut settles

pub returns-in-Kept-clause-effects : goal.returns-in-Kept-clause-effects
returns-in-Kept-clause-effects c = leaves_none c.args.kernel.now c.meet.new.kernel c.args.by c.args.id c.requires.fresh (rw c.in-Kept.is at c.in_ok-meet.ensures.changes)
