use Rattle.std.proofs.Common.{arith}
use Rattle.witness_stack.proofs.Extending.{IsStack-remove}
use Rattle.witness_stack.proofs.Counted.{witness_count_remove}
use Rattle.witness_stack.proofs.stack.Stack.take_out.Goals as goal

pub remove-requires : goal.remove-requires
remove-requires c =
    rw c.witness.ensures (λ l. omega (arith, witness_count_remove c.self.inside.entries c.args.k l (rw (← c.self.view_is) at c.requires), c.self.invariant.counts l))

pub invariant_of-self : goal.invariant_of-self
invariant_of-self c =
    rw (c.close.ensures, c.take_out.ensures) (record {
      stack = IsStack-remove c.self.inside.entries c.args.k (rw (← c.self.view_is) at c.requires) c.self.invariant.stack;
      counts = λ l. omega (arith, (rw c.witness.ensures at c.remove.ensures) l, witness_count_remove c.self.inside.entries c.args.k l (rw (← c.self.view_is) at c.requires), c.self.invariant.counts l);
    })
