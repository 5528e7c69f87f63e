use Rattle.watch_lists.proofs.tests.restart.Goals as goal

pub propagate-requires-clause-following : goal.propagate-requires-clause-following
propagate-requires-clause-following c = c.cut.ensures.follows c.args.world.now.store c.args.world.now.trail 0 c.requires.following c.back_to.ensures
