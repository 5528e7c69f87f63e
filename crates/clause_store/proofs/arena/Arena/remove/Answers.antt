use Rattle.std.proofs.Common.{arith}
use Rattle.std.specs.Prelude.{IsSome}
use Rattle.clause_store.specs.Stored.{slot}
use Rattle.clause_store.specs.Placing.{slots}
use Rattle.clause_store.proofs.Arrays.{slot_known, slots_set, slots_length, freed_set}
use Rattle.clause_store.proofs.Amounts.{arranged_freed}
use Rattle.clause_store.proofs.arena.Arena.remove.Goals as goal

pub index_mut-requires : goal.index_mut-requires
index_mut-requires c =
    let h : IsSome (slot (slots c.self.inside.words.items c.self.inside.places.items) c.args.id) = rw (← c.self.view_is) at c.requires in
    let k = slot_known c.self.inside.words.items c.self.inside.places.items c.args.id h in
    omega (arith, c.index.ensures)

pub invariant_of-self : goal.invariant_of-self
invariant_of-self c =
    let h : IsSome (slot (slots c.self.inside.words.items c.self.inside.places.items) c.args.id) = rw (← c.self.view_is) at c.requires in
    let k = slot_known c.self.inside.words.items c.self.inside.places.items c.args.id h in
    arranged_freed _ _ _ c.self.invariant (omega (arith, k, c.index.ensures))

pub returns : goal.returns
returns c =
    let h : IsSome (slot (slots c.self.inside.words.items c.self.inside.places.items) c.args.id) = rw (← c.self.view_is) at c.requires in
    let k = slot_known c.self.inside.words.items c.self.inside.places.items c.args.id h in
    let b = slots_length c.self.inside.words.items c.self.inside.places.items in
    rw (← c.self.view_is, c.index.ensures, slots_set) (freed_set (slots c.self.inside.words.items c.self.inside.places.items) c.args.id (omega arith))
