use Rattle.std.proofs.Common.{◌≡◌, ◌<◌, ◌-◌, ◌∙◌, ap, sym, refl, true, false, length, get_or, arith}
use Rattle.trail_state.specs.Table.{opens, reason_by}
use Rattle.trail_state.specs.Trail.{step}
use Rattle.trail_state.proofs.Steps.{steps-length}
use Rattle.trail_state.proofs.Holding.{lit_within, index_in, level_low, reason_here}
use Rattle.trail_state.proofs.trail.Trail.reason_at.Goals as goal

pub index-lit-requires : goal.index-lit-requires
index-lit-requires c =
    let w = (lit_within c.self.inside.lits.items c.self.inside.entries.items c.self.inside.from_theory.items c.self.inside.starts.items c.args.place (rw (← c.self.view_is) at c.requires)) in
    omega (arith, w, c.self.inside.lits.ok.0)

pub index-entry-requires : goal.index-entry-requires
index-entry-requires c =
    let w = (lit_within c.self.inside.lits.items c.self.inside.entries.items c.self.inside.from_theory.items c.self.inside.starts.items c.args.place (rw (← c.self.view_is) at c.requires)) in
    let below = index_in _ _ _ _ _ _ _ c.args.place _ (c.index.result - 1) c.self.invariant.0 w c.index-lit.ensures (omega arith) in
    omega (arith, below, c.self.inside.entries.ok.0)

pub is_start-requires : goal.is_start-requires
is_start-requires c =
    let w = (lit_within c.self.inside.lits.items c.self.inside.entries.items c.self.inside.from_theory.items c.self.inside.starts.items c.args.place (rw (← c.self.view_is) at c.requires)) in
    rw c.as_slice.ensures.value (level_low _ _ _ _ _ _ _ c.args.place _ (c.index.result - 1) c.index-entry.result.now c.self.invariant.0 w c.index-lit.ensures (omega arith) c.index-entry.ensures)

pub returns-then-is_start : goal.returns-then-is_start
returns-then-is_start c =
    rw (← c.self.view_is) (sym (reason_here c.self.inside.lits.items c.self.inside.entries.items c.self.inside.from_theory.items c.self.inside.starts.items _ _ _ c.args.place c.index-lit.result.now (c.index.result - 1) c.index-entry.result.now c.is_start.result (get_or c.self.inside.from_theory.items c.args.place false) c.self.invariant.0 (rw (← c.self.view_is) at c.requires) c.index-lit.ensures (omega arith) c.index-entry.ensures (rw c.as_slice.ensures.value at c.is_start.ensures) refl ∙ rw c.if-is_start.true refl))

pub returns-then-is_flagged : goal.returns-then-is_flagged
returns-then-is_flagged c =
    rw (← c.self.view_is) (sym (reason_here c.self.inside.lits.items c.self.inside.entries.items c.self.inside.from_theory.items c.self.inside.starts.items _ _ _ c.args.place c.index-lit.result.now (c.index.result - 1) c.index-entry.result.now c.is_start.result c.is_flagged.result c.self.invariant.0 (rw (← c.self.view_is) at c.requires) c.index-lit.ensures (omega arith) c.index-entry.ensures (rw c.as_slice.ensures.value at c.is_start.ensures) (rw c.as_slice-else-is_start.ensures.value at c.is_flagged.ensures) ∙ rw (c.if-is_start.false, c.if-is_flagged.true) refl))

pub returns-else-is_flagged : goal.returns-else-is_flagged
returns-else-is_flagged c =
    rw (← c.self.view_is) (sym (reason_here c.self.inside.lits.items c.self.inside.entries.items c.self.inside.from_theory.items c.self.inside.starts.items _ _ _ c.args.place c.index-lit.result.now (c.index.result - 1) c.index-entry.result.now c.is_start.result c.is_flagged.result c.self.invariant.0 (rw (← c.self.view_is) at c.requires) c.index-lit.ensures (omega arith) c.index-entry.ensures (rw c.as_slice.ensures.value at c.is_start.ensures) (rw c.as_slice-else-is_start.ensures.value at c.is_flagged.ensures) ∙ rw (c.if-is_start.false, c.if-is_flagged.false) refl))
