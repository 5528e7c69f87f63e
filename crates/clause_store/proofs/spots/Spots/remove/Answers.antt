use Rattle.std.proofs.Common.{arith}
use Rattle.clause_store.proofs.Pieces.{laid_removed, spots_removed}
use Rattle.clause_store.proofs.spots.Spots.remove.Goals as goal

pub invariant_of-self : goal.invariant_of-self
invariant_of-self c = laid_removed _ _ _ c.self.invariant (omega arith)

pub returns-then-id-len : goal.returns-then-id-len
returns-then-id-len c k n = rw (← c.self.view_is) (spots_removed c.self.inside.cells.items c.self.inside.pieces.items c.args.id k n)
