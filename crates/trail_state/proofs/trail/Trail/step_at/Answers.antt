use Rattle.std.proofs.Common.{◌≡◌, ◌<◌, ◌-◌, length, refl, arith}
use Rattle.trail_state.proofs.Holding.{lit_within, index_in, step_here}
use Rattle.trail_state.proofs.trail.Trail.step_at.Goals as goal

pub index-lit-requires : goal.index-lit-requires
index-lit-requires c =
    let w = (lit_within c.self.inside.lits.items c.self.inside.entries.items c.self.inside.from_theory.items c.self.inside.starts.items c.args.place (rw (← c.self.view_is) at c.requires)) in
    omega (arith, c.self.inside.lits.ok.0)

pub index-requires-2 : goal.index-requires-2
index-requires-2 c =
    let w = (lit_within c.self.inside.lits.items c.self.inside.entries.items c.self.inside.from_theory.items c.self.inside.starts.items c.args.place (rw (← c.self.view_is) at c.requires)) in
    let below = index_in _ _ _ _ _ _ _ c.args.place _ (c.index.result - 1) c.self.invariant.0 w c.index-lit.ensures (omega arith) in
    omega (arith, below, c.self.inside.entries.ok.0)

pub returns : goal.returns
returns c =
    let w = (lit_within c.self.inside.lits.items c.self.inside.entries.items c.self.inside.from_theory.items c.self.inside.starts.items c.args.place (rw (← c.self.view_is) at c.requires)) in
    let below = index_in _ _ _ _ _ _ _ c.args.place _ (c.index.result - 1) c.self.invariant.0 w c.index-lit.ensures (omega arith) in
    let here = step_here c.self.inside.lits.items c.self.inside.entries.items c.self.inside.from_theory.items c.self.inside.starts.items c.args.place _ (c.index.result - 1) c.index-2.result.now w c.index-lit.ensures (omega arith) below c.index-2.ensures in
    rw (c.reason_at-reason.ensures, ← c.self.view_is, here) refl
