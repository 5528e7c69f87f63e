use Rattle.std.proofs.Common.{◌≡◌, ◌≤◌, length, take}
use Rattle.trail_state.specs.Table.{steps_of, IsValued}
use Rattle.trail_state.proofs.Backing.{Falling}
use Rattle.trail_state.proofs.trail.Trail.back_to.Given as goal

abbrev pub invariant-loop-end : goal.invariant-loop-end
invariant-loop-end l =
    let i = l.initial.self-inside in
    let t = steps_of i.lits.items i.entries.items i.from_theory.items i.starts.items in
    Falling t i.entries.items l.self-inside.entries.items l.end
    × (l.self-inside.lits ≡ i.lits)
    × (l.self-inside.from_theory ≡ i.from_theory)
    × (l.self-inside.starts ≡ i.starts)
    × IsValued l.self-inside.values.items (length i.entries.items) (take l.end t)
    × (l.kept ≤ l.end)

abbrev pub decreases-loop-end : goal.decreases-loop-end
decreases-loop-end l = l.end
