use Rattle.clause_store.proofs.store.Store.law_normal.Goals as goal

pub returns : goal.returns
returns c id = rw (← c.self.view_is) (c.self.invariant.normal id)
