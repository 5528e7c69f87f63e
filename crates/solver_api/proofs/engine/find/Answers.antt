use Rattle.solver_api.proofs.engine.find.Goals as goal

pub search-requires-clause-ready : goal.search-requires-clause-ready
search-requires-clause-ready c = c.in_ok-resume.ensures.ready c.args.assumptions.now c.requires.assumed
