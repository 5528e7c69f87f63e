use Rattle.std.proofs.Common.{◌+◌, ◌∙◌, length, sym, ap, arith}
use Rattle.std.proofs.lemmas.List.{take_all}
use Rattle.clause_store.specs.Stored.{slot_lits}
use Rattle.clause_store.specs.Placing.{slots, slot_at, literal_count}
use Rattle.clause_store.proofs.Arrays.{within_read, copied_more, slots_length}
use Rattle.clause_store.proofs.Amounts.{amount_more, amount_next}
use Rattle.clause_store.proofs.arena.Arena.compact.Goals as goal

pub copy_clause-requires-clause-place : goal.copy_clause-requires-clause-place
copy_clause-requires-clause-place c =
    let w = within_read c.self.inside.words.items c.self.inside.places.items c.each.id c.index-place.result.now c.self.invariant.within (omega arith) c.index-place.ensures in
    let e = ap length c.deref.ensures.value in
    omega arith

pub copy_clause-requires-clause-room : goal.copy_clause-requires-clause-room
copy_clause-requires-clause-room c =
    let fits = amount_next c.self.inside.words.items c.self.inside.places.items c.each.id c.index-place.result.now (omega arith) c.index-place.ensures in
    rw c.deref.ensures.value (omega (arith, fits, c.each.invariant.close, c.self.invariant.room, c.self.invariant.short))

pub each-preserved : goal.each-preserved
each-preserved c =
    let h = c.in_ok-copy_clause.ensures in
    let copied = rw c.deref.ensures.value at h.close in
    record {
      copied = copied_more c.each.words.items _ c.self.inside.words.items c.self.inside.places.items c.each.places.items _ c.each.id c.index-place.result.now (omega arith) c.index-place.ensures c.each.invariant.copied (rw c.deref.ensures.value at h.slots);
      within = h.within;
      close = copied ∙ ap (λ n. n + length (slot_lits (slot_at c.self.inside.words.items c.index-place.result.now))) c.each.invariant.close ∙ sym (amount_more c.self.inside.words.items c.self.inside.places.items c.each.id c.index-place.result.now (omega arith) c.index-place.ensures);
    }

pub invariant_of-self : goal.invariant_of-self
invariant_of-self c =
    let n = slots_length c.self.inside.words.items c.self.inside.places.items in
    let all = take_all c.each.id (slots c.self.inside.words.items c.self.inside.places.items) (omega arith) in
    let same = c.each.invariant.copied in
    record {
      within = c.each.invariant.within;
      room = omega (arith, ap literal_count same, c.each.invariant.close);
      short = omega (arith, ap literal_count all, c.each.invariant.close, c.self.invariant.room, c.self.invariant.short);
    }

pub returns-clause-same : goal.returns-clause-same
returns-clause-same c =
    let n = slots_length c.self.inside.words.items c.self.inside.places.items in
    rw (← c.self.view_is) (c.each.invariant.copied ∙ take_all c.each.id (slots c.self.inside.words.items c.self.inside.places.items) (omega arith))

pub returns-clause-close : goal.returns-clause-close
returns-clause-close c = c.each.invariant.close ∙ sym (ap literal_count c.each.invariant.copied)
