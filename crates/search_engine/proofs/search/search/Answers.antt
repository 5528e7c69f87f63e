use Rattle.lazy_reasons.proofs.Idling.{idle_started}
use Rattle.search_engine.proofs.Counts.{counts_start}
use Rattle.std.proofs.Common.{refl, ap, ◌∙◌}
use Rattle.search_engine.proofs.Keeping.{ready_same, keeps_same, keeps_more}
use Rattle.search_engine.proofs.Orders.{orderly_picked}
use Rattle.search_engine.proofs.Looping.{first_at_root, found_before}
use Rattle.search_engine.proofs.search.search.Goals as goal

pub loop-found-init : goal.loop-found-init
loop-found-init g c =
    let ready = c.requires.ready in
    let trail = c.args.state.now.trail in
    let same = c.stable.ensures.same in
    let orderly = orderly_picked c.args.state.now.order c.stable.new.self trail same (c.stable.ensures.follows trail) ready.orderly in
    record {
      idle = idle_started _ _ _ c.requires.idle c.start-2.ensures;
      callbacks = ap (λ b. b.budget) c.start-2.ensures;
      stands = record {
        ready = ready_same _ c.args.state.now _ ready refl refl refl refl refl same.declared orderly;
        first = first_at_root _ _ _ c.law_shape.ensures c.requires.root;
        unspent = ap (λ t. t.is_spent) c.start.ensures;
        settled = ap (λ t. t.owes) c.start.ensures;
      };
      passed = c.start-cursor.ensures c.args.assumptions.now _;
      keeps = keeps_same c.args.assumptions.now c.args.state.now _ ready refl refl refl refl refl same.declared orderly;
      budget = ap (λ t. t.budget) c.start.ensures;
      counted = counts_start c.args.state.now.tally.total c.start.new.self (ap (λ t. t.total) c.start.ensures) (ap (λ t. t.count) c.start.ensures) c.total.ensures.range.bounded;
    }

pub loop-found-preserved : goal.loop-found-preserved
loop-found-preserved g c =
    let turn = c.in_ok-take_turn.ensures in
    let before = c.loop-found.invariant in
    let next = rw c.in-Goes.is at turn.turn in
    record {
      idle = turn.idle;
      callbacks = turn.callbacks ∙ before.callbacks;
      stands = next.stands;
      passed = turn.passed;
      keeps = keeps_more _ _ _ before.keeps turn.keeps;
      budget = turn.budget ∙ before.budget;
      counted = turn.counts _ before.counted;
    }

pub returns-in_err-take_turn-clause-keeps : goal.returns-in_err-take_turn-clause-keeps
returns-in_err-take_turn-clause-keeps g c = keeps_more _ _ _ c.loop-found.invariant.keeps c.in_err-take_turn.ensures.keeps

pub returns-in-Ends-clause-keeps : goal.returns-in-Ends-clause-keeps
returns-in-Ends-clause-keeps g c = keeps_more _ _ _ c.loop-found.invariant.keeps c.in_ok-take_turn.ensures.keeps

pub returns-in-Ends-clause-found : goal.returns-in-Ends-clause-found
returns-in-Ends-clause-found g c =
    found_before c.args.assumptions.now c.args.state.now c.loop-found.state c.take_turn.new.state c.loop-found.invariant.keeps c.in-Ends.found (rw c.in-Ends.is at c.in_ok-take_turn.ensures.turn)
