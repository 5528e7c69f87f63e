use Rattle.clause_store.proofs.index.Index.remove.Goals as goal

pub returns-in-Redundant-clause-others : goal.returns-in-Redundant-clause-others
returns-in-Redundant-clause-others c k i n in-i = rw (← c.self.view_is) at (c.requires.indexed.stand.stands k i in-i)
