use Rattle.std.proofs.Common.{ap, ◌∙◌}
use Rattle.rooted_trails.proofs.Reasons.{rooted_back}
use Rattle.search_policy.specs.Plan.{restarts_left}
use Rattle.search_engine.proofs.Keeping.{keeps_none, keeps_more}
use Rattle.search_engine.proofs.Measures.{left_paced}
use Rattle.conflict_analysis.proofs.Returns.{false_back, reaches_back, highest_reaches, highest_bound}
use Rattle.search_engine.proofs.Conflicts.{root_conflict, ready_back, keeps_back, first_back}
use Rattle.search_engine.proofs.Orders.{orderly_back, orderly_picked}
use Rattle.search_engine.proofs.Jumps.{jump_rises, jumped_back}
use Rattle.search_engine.proofs.conflict.learn_from.Goals as goal

pub returns-then-at_root-clause-turn : goal.returns-then-at_root-clause-turn
returns-then-at_root-clause-turn g c =
    rw c.new.ensures
    (root_conflict _ _ _ _ _ _ c.requires.stands.ready.rooted c.law_shape.ensures c.requires.live c.requires.is_false (rw c.get.ensures.value at c.highest-top.ensures.bound) c.if-at_root.true)

pub back_to-requires-clause-level : goal.back_to-requires-clause-level
back_to-requires-clause-level g c = highest_bound _ _ _ _ c.law_shape.ensures c.highest-top.ensures.attained

pub learn_clausal-answer-requires-clause-rooted : goal.learn_clausal-answer-requires-clause-rooted
learn_clausal-answer-requires-clause-rooted g c = rooted_back _ _ _ _ c.back_to.ensures.back c.requires.stands.ready.rooted

pub learn_clausal-answer-requires-clause-is_false : goal.learn_clausal-answer-requires-clause-is_false
learn_clausal-answer-requires-clause-is_false g c =
    false_back _ _ _ _ c.law_shape.ensures c.back_to.ensures.back c.requires.is_false (rw c.get.ensures.value at c.highest-top.ensures.bound)

pub learn_clausal-answer-requires-clause-reaches : goal.learn_clausal-answer-requires-clause-reaches
learn_clausal-answer-requires-clause-reaches g c =
    reaches_back _ _ _ _ c.law_shape.ensures c.law_shape-2.ensures c.back_to.ensures.back c.requires.is_false (highest_reaches _ _ _ c.if-at_root.false (rw c.get.ensures.value at c.highest-top.ensures.attained))

pub assert_learned-requires-clause-ready : goal.assert_learned-requires-clause-ready
assert_learned-requires-clause-ready g c =
    let ready = c.requires.stands.ready in
    let back = c.back_to.ensures.back in
    let same = c.count-back.ensures.same in
    ready_back _ _ _ _ _ _ _ _ _ ready back c.cut.ensures.attached c.cut.ensures.declared (c.cut.ensures.follows _ _ _ ready.following back)
    (orderly_picked c.back_to.new.self c.count-back.new.order c.back_to.new.trail same (c.count-back.ensures.follows c.back_to.new.trail) (orderly_back _ _ _ _ _ back c.back_to.ensures.same c.back_to.ensures.follows ready.orderly)) (same.declared ∙ c.back_to.ensures.same.declared)

pub assert_learned-requires-clause-first : goal.assert_learned-requires-clause-first
assert_learned-requires-clause-first g c = first_back _ _ _ _ c.back_to.ensures.back c.requires.stands.first

pub returns-in_ok-reduce-in-Ok-clause-turn : goal.returns-in_ok-reduce-in-Ok-clause-turn
returns-in_ok-reduce-in-Ok-clause-turn g c =
    let learned = c.in_ok-assert_learned-in-Ok.ensures in
    let again = c.restart.ensures in
    let less = c.reduce.ensures in
    let back = c.back_to.ensures.back in
    let policy = ap (λ p. restarts_left p) learned.policy in
    let dec = learned.keeps.declared ∙ back.declared in
    record {
      stands = less.stands;
      falls = left_paced c.args.state.now.trail.declared c.reduce.new.state.trail.declared (restarts_left c.args.state.now.policy) (restarts_left c.assert_learned.new.state.policy) (restarts_left c.reduce.new.state.policy)
          c.args.state.now.trail c.assert_learned.new.state.trail c.reduce.new.state.trail c.count-back.result
          (less.keeps.declared ∙ again.keeps.declared ∙ dec) dec c.law_room-in-Ok.ensures.steps (rw policy c.count-back.ensures.left) (rw policy c.count-back.ensures.back)
          (less.left ∙ ap (λ p. restarts_left p) again.policy) (jump_rises _ _ (jumped_back _ _ _ _ back learned.jumped)) (λ h. less.trail ∙ again.stays h);
    }

pub returns-in_ok-reduce-in-Ok-clause-keeps : goal.returns-in_ok-reduce-in-Ok-clause-keeps
returns-in_ok-reduce-in-Ok-clause-keeps g c =
    let ready = c.requires.stands.ready in
    let back = c.back_to.ensures.back in
    let same = c.count-back.ensures.same in
    let mid = keeps_back c.args.assumptions.now c.args.state.now c.back_to.new.trail c.count-back.new.order c.count-back.new.policy c.cut.new.self c.learn_clausal-answer.new.tally c.learn_clausal-answer.new.scratch c.highest-top.result ready back c.cut.ensures.attached c.cut.ensures.declared (c.cut.ensures.follows _ _ _ ready.following back)
    (orderly_picked c.back_to.new.self c.count-back.new.order c.back_to.new.trail same (c.count-back.ensures.follows c.back_to.new.trail) (orderly_back _ _ _ _ _ back c.back_to.ensures.same c.back_to.ensures.follows ready.orderly)) (same.declared ∙ c.back_to.ensures.same.declared) in
    keeps_more _ _ _ (keeps_more _ _ _ (keeps_more _ _ _ mid c.assert_learned.ensures.keeps) c.restart.ensures.keeps) c.reduce.ensures.keeps

pub returns-in_err-reduce-in-Ok-clause-keeps : goal.returns-in_err-reduce-in-Ok-clause-keeps
returns-in_err-reduce-in-Ok-clause-keeps g c =
    let ready = c.requires.stands.ready in
    let back = c.back_to.ensures.back in
    let same = c.count-back.ensures.same in
    let mid = keeps_back c.args.assumptions.now c.args.state.now c.back_to.new.trail c.count-back.new.order c.count-back.new.policy c.cut.new.self c.learn_clausal-answer.new.tally c.learn_clausal-answer.new.scratch c.highest-top.result ready back c.cut.ensures.attached c.cut.ensures.declared (c.cut.ensures.follows _ _ _ ready.following back)
    (orderly_picked c.back_to.new.self c.count-back.new.order c.back_to.new.trail same (c.count-back.ensures.follows c.back_to.new.trail) (orderly_back _ _ _ _ _ back c.back_to.ensures.same c.back_to.ensures.follows ready.orderly)) (same.declared ∙ c.back_to.ensures.same.declared) in
    keeps_more _ _ _ (keeps_more _ _ _ (keeps_more _ _ _ mid c.assert_learned.ensures.keeps) c.restart.ensures.keeps) c.reduce.ensures.keeps

pub returns-in_err-assert_learned-in-Ok-clause-keeps : goal.returns-in_err-assert_learned-in-Ok-clause-keeps
returns-in_err-assert_learned-in-Ok-clause-keeps g c =
    let ready = c.requires.stands.ready in
    let back = c.back_to.ensures.back in
    let same = c.count-back.ensures.same in
    let mid = keeps_back c.args.assumptions.now c.args.state.now c.back_to.new.trail c.count-back.new.order c.count-back.new.policy c.cut.new.self c.learn_clausal-answer.new.tally c.learn_clausal-answer.new.scratch c.highest-top.result ready back c.cut.ensures.attached c.cut.ensures.declared (c.cut.ensures.follows _ _ _ ready.following back)
    (orderly_picked c.back_to.new.self c.count-back.new.order c.back_to.new.trail same (c.count-back.ensures.follows c.back_to.new.trail) (orderly_back _ _ _ _ _ back c.back_to.ensures.same c.back_to.ensures.follows ready.orderly)) (same.declared ∙ c.back_to.ensures.same.declared) in
    keeps_more _ _ _ mid c.assert_learned.ensures.keeps

pub returns-in-Err-Conflicts-clause-keeps : goal.returns-in-Err-Conflicts-clause-keeps
returns-in-Err-Conflicts-clause-keeps g c =
    let ready = c.requires.stands.ready in
    let back = c.back_to.ensures.back in
    keeps_back _ _ _ _ _ _ _ _ _ ready back c.cut.ensures.attached c.cut.ensures.declared (c.cut.ensures.follows _ _ _ ready.following back)
    (orderly_back _ _ _ _ _ back c.back_to.ensures.same c.back_to.ensures.follows ready.orderly) c.back_to.ensures.same.declared

pub returns-in-Err-Memory-clause-keeps : goal.returns-in-Err-Memory-clause-keeps
returns-in-Err-Memory-clause-keeps g c =
    let ready = c.requires.stands.ready in
    let back = c.back_to.ensures.back in
    keeps_back _ _ _ _ _ _ _ _ _ ready back c.cut.ensures.attached c.cut.ensures.declared (c.cut.ensures.follows _ _ _ ready.following back)
    (orderly_back _ _ _ _ _ back c.back_to.ensures.same c.back_to.ensures.follows ready.orderly) c.back_to.ensures.same.declared

pub returns-then-at_root-clause-keeps : goal.returns-then-at_root-clause-keeps
returns-then-at_root-clause-keeps g c = keeps_none c.args.assumptions.now c.args.state.now c.requires.stands.ready
