use Rattle.watch_lists.proofs.tests.new_world.Goals as goal

pub returns-clause-following : goal.returns-clause-following
returns-clause-following c = c.declare.ensures.follows _ _ (c.new-watches.ensures.follows _ _)
