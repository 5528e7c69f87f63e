use Rattle.clause_store.specs.Listing.{HasEachOnce, firm_at}
use Rattle.subsume_pass.proofs.Passing.{few_by_length}
use Rattle.subsume_pass.proofs.pass.few_wait.Goals as goal

pub returns-then-due-firm : goal.returns-then-due-firm
returns-then-due-firm c =
    let each : HasEachOnce (firm_at c.args.kernel.now.store) c.firm_ids-firm.result.now = rw c.store.ensures at c.firm_ids-firm.ensures in
    λ y. few_by_length c.args.kernel.now c.firm_ids-firm.result.now c.due-due.result.now c.fresh.result.now each c.due-due.ensures c.fresh.ensures c.if-due-firm.true y
