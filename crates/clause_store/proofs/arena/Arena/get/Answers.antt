use Rattle.std.proofs.Common.{◌∙◌, arith}
use Rattle.std.specs.Prelude.{IsSome}
use Rattle.clause_store.specs.Stored.{slot}
use Rattle.clause_store.specs.Placing.{slots}
use Rattle.clause_store.proofs.Arrays.{slot_known, lits_read, within_read, part_read}
use Rattle.clause_store.proofs.arena.Arena.get.Goals as goal

pub index-place-requires : goal.index-place-requires
index-place-requires c =
    let h : IsSome (slot (slots c.self.inside.words.items c.self.inside.places.items) c.args.id) = rw (← c.self.view_is) at c.requires in
    let k = slot_known c.self.inside.words.items c.self.inside.places.items c.args.id h in
    omega arith

pub overflow_add-to : goal.overflow_add-to
overflow_add-to c =
    let h : IsSome (slot (slots c.self.inside.words.items c.self.inside.places.items) c.args.id) = rw (← c.self.view_is) at c.requires in
    let w = within_read c.self.inside.words.items c.self.inside.places.items c.args.id c.index-place.result.now c.self.invariant.within (slot_known c.self.inside.words.items c.self.inside.places.items c.args.id h) c.index-place.ensures in
    omega arith

pub offset_bounds-deref-from : goal.offset_bounds-deref-from
offset_bounds-deref-from c =
    let h : IsSome (slot (slots c.self.inside.words.items c.self.inside.places.items) c.args.id) = rw (← c.self.view_is) at c.requires in
    let w = within_read c.self.inside.words.items c.self.inside.places.items c.args.id c.index-place.result.now c.self.invariant.within (slot_known c.self.inside.words.items c.self.inside.places.items c.args.id h) c.index-place.ensures in
    omega arith

pub slice_bounds-result-end : goal.slice_bounds-result-end
slice_bounds-result-end c =
    let h : IsSome (slot (slots c.self.inside.words.items c.self.inside.places.items) c.args.id) = rw (← c.self.view_is) at c.requires in
    let w = within_read c.self.inside.words.items c.self.inside.places.items c.args.id c.index-place.result.now c.self.invariant.within (slot_known c.self.inside.words.items c.self.inside.places.items c.args.id h) c.index-place.ensures in
    omega arith

pub returns : goal.returns
returns c =
    let h : IsSome (slot (slots c.self.inside.words.items c.self.inside.places.items) c.args.id) = rw (← c.self.view_is) at c.requires in
    rw (← c.self.view_is)
    (part_read c.deref.result.now c.self.inside.words.items c.index-place.result.now.start c.index-place.result.now.len c.deref.ensures.value
    ∙ lits_read c.self.inside.words.items c.self.inside.places.items c.args.id c.index-place.result.now c.index-place.ensures h)
