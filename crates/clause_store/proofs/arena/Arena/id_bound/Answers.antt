use Rattle.std.proofs.Common.{arith}
use Rattle.clause_store.proofs.Arrays.{slot_known, slots_length}
use Rattle.clause_store.proofs.arena.Arena.id_bound.Goals as goal

pub returns-clause-bound : goal.returns-clause-bound
returns-clause-bound c id h =
    let k = slot_known c.self.inside.words.items c.self.inside.places.items id (rw (← c.self.view_is) at h) in
    omega arith

pub returns-clause-count : goal.returns-clause-count
returns-clause-count c =
    let n = slots_length c.self.inside.words.items c.self.inside.places.items in
    rw (← c.self.view_is) (omega arith)
