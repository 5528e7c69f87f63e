use Rattle.std.proofs.Common.{◌≡◌, ◌-◌, false, sym, ◌∙◌, arith}
use Rattle.std.specs.Prelude.{nat_lt}
use Rattle.std.proofs.lemmas.Bool.{ltb-false}
use Rattle.trail_state.specs.Trail.{step}
use Rattle.decide_order.proofs.Backs.{follows_back, follows_kept}
use Rattle.decide_order.proofs.order.Order.back_to.Goals as goal
use Rattle.decide_order.proofs.order.Order.back_to.Goals.{else-loop-kept-test, then-loop-kept-test+then-not-leaves}

pub returns-clause-follows : goal.returns-clause-follows
returns-clause-follows c = λ f.
    let inv = c.loop-kept.invariant in
    elim c.loop-kept-test.branch [
      | else-loop-kept-test w ↦
          rw w.self-is
          (follows_back c.loop-kept.self c.args.trail.now c.back_to.new.self c.args.level _ c.loop-kept.kept (inv.follows f) c.back_to.ensures c.law_shape.ensures (λ pos. absurd (omega (arith, w.loop-kept-test.false))) inv.passed inv.within)
      | then-loop-kept-test+then-not-leaves w ↦
          let off : nat_lt c.args.level (step c.args.trail.now.steps (c.loop-kept.kept - 1)).level ≡ false = sym w.leaves.ensures.answer ∙ w.if-not-leaves.true in
          rw w.self-is
          (follows_back w.leaves.new.self c.args.trail.now c.back_to.new.self c.args.level _ c.loop-kept.kept
          (follows_kept c.loop-kept.self w.leaves.new.self c.args.trail.now (inv.follows f) w.leaves.ensures.same w.leaves.ensures.keeps)
          c.back_to.ensures c.law_shape.ensures (λ pos. ltb-false c.args.level (step c.args.trail.now.steps (c.loop-kept.kept - 1)).level off) (λ i le in'. w.leaves.ensures.keeps _ (inv.passed i le in')) inv.within)
    ]
