use Rattle.std.proofs.Common.{sym, ap, length, arith}
use Rattle.trail_state.proofs.Places.{lit_read}
use Rattle.watch_lists.proofs.Runs.{leveled_at, place_in}
use Rattle.watch_lists.proofs.visits.sure_from.Goals as goal

pub returns-then-level-clause-level : goal.returns-then-level-clause-level
returns-then-level-clause-level c =
    let t = c.args.trail.now.steps in
    let in' = place_in _ t c.args.start c.lits-2.ensures (omega (arith, c.if-start-lits.false, ap length c.lits.ensures, ap length c.lits-2.ensures)) in
    let lit = lit_read t c.args.start c.index-lits-start.result in' (rw c.lits-2.ensures at c.index-lits-start.is) in
    leveled_at c.args.trail.now c.args.start _ c.in-Some.level c.index-lits-start.result c.law_shape.ensures in' lit (rw c.var-var.ensures.value at (sym c.in-Some.ensures)) (omega (arith, c.if-level.true, c.level.ensures))
