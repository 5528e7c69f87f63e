use Rattle.std.proofs.Common.{arith}
use Rattle.clause_store.proofs.Arrays.{slots_length, slot_past}
use Rattle.clause_store.proofs.arena.Arena.vacant.Goals as goal

pub returns-clause-free : goal.returns-clause-free
returns-clause-free c =
    rw (← c.self.view_is, c.new.ensures) (slot_past c.self.inside.words.items c.self.inside.places.items c.len-id.result (omega arith))

pub returns-clause-near : goal.returns-clause-near
returns-clause-near c =
    let n = slots_length c.self.inside.words.items c.self.inside.places.items in
    rw (← c.self.view_is, c.new.ensures) (omega arith)
