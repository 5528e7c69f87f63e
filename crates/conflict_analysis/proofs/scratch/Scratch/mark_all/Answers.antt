use Rattle.std.proofs.Common.{◌≡◌, true, sym, subst}
use Rattle.sat_terms.specs.Literal.{has, var_of}
use Rattle.sat_terms.proofs.Members.{has_item}
use Rattle.conflict_analysis.proofs.Fronts.{marked_one}
use Rattle.conflict_analysis.proofs.Variables.{still_off}
use Rattle.conflict_analysis.proofs.scratch.Scratch.mark_all.Goals as goal

pub mark-requires-clause-is_false : goal.mark-requires-clause-is_false
mark-requires-clause-is_false c off =
    c.requires.are_false c.lit-item.result (subst (λ x. has c.args.clause.now x ≡ true) (sym c.lit-item.is) (has_item c.args.clause.now c.loop-lit.lit-index c.lit-item.result c.loop-lit-test.true))
    (still_off c.args.self.now.seen c.loop-lit.self.seen (var_of c.lit-item.result) c.loop-lit.invariant.grows off)

pub loop-lit-preserved : goal.loop-lit-preserved
loop-lit-preserved c =
    marked_one c.args.trail.now c.args.below c.args.self.now c.loop-lit.self c.mark.new.self c.args.clause.now c.loop-lit.lit-index c.lit-item.result c.loop-lit-test.true c.lit-item.is c.loop-lit.invariant
    c.in_ok-mark.ensures.marking c.in_ok-mark.ensures.grows c.in_ok-mark.ensures.covered c.in_ok-mark.ensures.from
