use Rattle.std.proofs.Common.{◌≡◌, ◌<◌, ◌-◌, ap, sym, length, arith}
use Rattle.trail_state.proofs.Steps.{steps-length}
use Rattle.trail_state.proofs.Holding.{lit_within, index_in, step_here}
use Rattle.trail_state.proofs.trail.Trail.level_at.Goals as goal
use Rattle.trail_state.proofs.trail.Trail.level_at.Goals.{After-self}

pub index-lit-requires : goal.index-lit-requires
index-lit-requires c =
    let w = (lit_within c.self.inside.lits.items c.self.inside.entries.items c.self.inside.from_theory.items c.self.inside.starts.items c.args.place (rw (← c.self.view_is) at c.requires)) in
    omega (arith, w, c.self.inside.lits.ok.0)

pub index-requires-2 : goal.index-requires-2
index-requires-2 c =
    let w = (lit_within c.self.inside.lits.items c.self.inside.entries.items c.self.inside.from_theory.items c.self.inside.starts.items c.args.place (rw (← c.self.view_is) at c.requires)) in
    let below = index_in _ _ _ _ _ _ _ c.args.place _ (c.index.result - 1) c.self.invariant.0 w c.index-lit.ensures (omega arith) in
    omega (arith, below, c.self.inside.entries.ok.0)

pub returns : goal.returns
returns c =
    let w = (lit_within c.self.inside.lits.items c.self.inside.entries.items c.self.inside.from_theory.items c.self.inside.starts.items c.args.place (rw (← c.self.view_is) at c.requires)) in
    let below = index_in _ _ _ _ _ _ _ c.args.place _ (c.index.result - 1) c.self.invariant.0 w c.index-lit.ensures (omega arith) in
    rw (← c.self.view_is) (sym (ap (λ x. x.level) (step_here _ _ _ _ c.args.place _ (c.index.result - 1) c.index-2.result.now w c.index-lit.ensures (omega arith) below c.index-2.ensures)))
