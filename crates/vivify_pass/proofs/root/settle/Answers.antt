use Rattle.vivify_pass.proofs.Turning.{ready_settled}
use Rattle.vivify_pass.proofs.root.settle.Goals as goal

pub returns-then-is_none-clause-ready : goal.returns-then-is_none-clause-ready
returns-then-is_none-clause-ready c = ready_settled c.args.store.now c.args.watches.now c.propagate.new.self c.args.trail.now c.propagate.new.trail c.requires c.propagate.ensures.attached c.propagate.ensures.declared c.propagate.ensures.follows c.propagate.ensures.grown
