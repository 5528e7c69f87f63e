use Rattle.std.proofs.Common.{subst}
use Rattle.redundancy.specs.Redundancy.{IsStack}
use Rattle.witness_stack.proofs.stack.Stack.law_witnesses.Goals as goal

pub returns : goal.returns
returns c = subst IsStack c.self.view_is c.self.invariant.stack
