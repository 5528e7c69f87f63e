use Rattle.std.proofs.Common.{◌<◌, length, ap, arith}
use Rattle.std.proofs.lemmas.List.{length-map}
use Rattle.trail_state.specs.declared.trail.Entry.{Entry}
use Rattle.trail_state.proofs.Steps.{steps-length, steps-lit}
use Rattle.trail_state.proofs.Holding.{few_levels, lit_declared}
use Rattle.trail_state.proofs.trail.Trail.law_room.Goals as goal

pub returns : goal.returns
returns c =
    let few = few_levels _ _ _ _ _ _ _ c.self.invariant.0 in
    let size = steps-length c.self.inside.lits.items c.self.inside.entries.items c.self.inside.from_theory.items c.self.inside.starts.items in
    rw (← c.self.view_is)
    (record {
      few = few.2;
      steps = omega (arith, few.1, size);
      levels = omega (arith, few.0, size);
      named = λ i in'.
          let in'' : i < length c.self.inside.lits.items = omega (arith, in', size) in
          rw (steps-lit _ _ _ _ i in'') (lit_declared _ _ _ _ _ _ _ i c.self.invariant.0 in'');
    })
