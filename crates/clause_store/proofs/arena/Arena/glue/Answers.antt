use Rattle.std.proofs.Common.{arith}
use Rattle.std.specs.Prelude.{IsSome}
use Rattle.clause_store.specs.Stored.{slot}
use Rattle.clause_store.specs.Placing.{slots}
use Rattle.clause_store.proofs.Arrays.{slot_known, glue_read}
use Rattle.clause_store.proofs.arena.Arena.glue.Goals as goal

pub index-place-requires : goal.index-place-requires
index-place-requires c =
    let h : IsSome (slot (slots c.self.inside.words.items c.self.inside.places.items) c.args.id) = rw (← c.self.view_is) at c.requires in
    let k = slot_known c.self.inside.words.items c.self.inside.places.items c.args.id h in
    omega arith

pub returns : goal.returns
returns c =
    let h : IsSome (slot (slots c.self.inside.words.items c.self.inside.places.items) c.args.id) = rw (← c.self.view_is) at c.requires in
    rw (← c.self.view_is) (glue_read c.self.inside.words.items c.self.inside.places.items c.args.id c.index-place.result.now c.index-place.ensures h)
