use Rattle.flag_set.specs.Flags.{holds}
use Rattle.search_policy.proofs.Reasons.{marked_more, reason_some}
use Rattle.search_policy.proofs.marks.reasons.Goals as goal
use Rattle.search_policy.proofs.marks.reasons.Goals.{in-Some+in_ok-mark_reason, in_default}

pub loop-lit-preserved : goal.loop-lit-preserved
loop-lit-preserved c = λ k live.
    elim c.match-reason_of.branch [
      | in-Some+in_ok-mark_reason w ↦
          rw w.marks-is
          (marked_more c.args.trail.now.steps c.loop-lit.lit-index c.lit-item.result k c.lits-lit-items.result.now w.in-Some.reason (holds c.loop-lit.marks k) (holds w.mark_reason.new.marks k)
          c.law_shape.ensures.apart c.lits-lit-items.ensures c.loop-lit-test.true c.lit-item.is (rw c.var.ensures.value at w.in-Some.ensures) (c.loop-lit.invariant k live) (w.in_ok-mark_reason.ensures k live))
      | in_default w ↦
          absurd (reason_some c.args.trail.now.steps c.loop-lit.lit-index c.lit-item.result c.lits-lit-items.result.now c.law_shape.ensures.apart c.lits-lit-items.ensures c.loop-lit-test.true c.lit-item.is (rw c.var.ensures.value at w.in_default.ensures))
    ]
