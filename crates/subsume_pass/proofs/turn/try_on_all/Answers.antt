use Rattle.std.proofs.Common.{◌≡◌, arith}
use Rattle.clause_store.specs.Stored.{slot, slot_lits}
use Rattle.pass_terms.specs.Ruled.Ruled.{none}
use Rattle.firm_terms.proofs.Emptying.{refuted_at}
use Rattle.subsume_pass.proofs.turn.try_on_all.Goals as goal

pub returns-then-count-eq0-clause-ruled : goal.returns-then-count-eq0-clause-ruled
returns-then-count-eq0-clause-ruled c = none

pub returns-in_err-ids-clause-ruled : goal.returns-in_err-ids-clause-ruled
returns-in_err-ids-clause-ruled c = none

pub returns-then-count-eq0-clause-turned : goal.returns-then-count-eq0-clause-turned
returns-then-count-eq0-clause-turned c =
    let is : c.get-count.result.now ≡ slot_lits (slot c.args.kernel.now.store c.args.by) = rw c.store.ensures at c.get-count.ensures.value in
    record { empty = refuted_at c.args.kernel.now.store c.args.by c.get-count.result.now c.requires.by is c.if-count-eq0.true; spent = omega arith }
