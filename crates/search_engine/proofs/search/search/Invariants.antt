use Rattle.std.proofs.Common.{◌≡◌}
use Rattle.theory_bridge.specs.Shown.{facing}
use Rattle.lazy_reasons.specs.Idle.{IsIdle}
use Rattle.search_engine.specs.Searching.{Keeps, CountsFrom}
use Rattle.search_engine.specs.Turns.{IsBetweenTurns, Passed, measure}
use Rattle.search_engine.proofs.search.search.Given as goal

abbrev pub invariant-loop-found : goal.invariant-loop-found
invariant-loop-found g l = record {
  idle : IsIdle (facing (λ b. (goal.Theory-dyn g b).meaning b.1) l.bridge);
  callbacks : (facing (λ b. (goal.Theory-dyn g b).meaning b.1) l.bridge).budget ≡ l.fn.budget.callbacks;
  stands : IsBetweenTurns l.assumptions l.state;
  passed : Passed l.assumptions l.state l.cursor;
  keeps : Keeps l.fn.state l.state;
  budget : l.state.tally.budget ≡ l.fn.budget.conflicts;
  counted : CountsFrom l.fn.state.tally.total l.state.tally;
}

abbrev pub decreases-loop-found : goal.decreases-loop-found
decreases-loop-found g l = measure l.state
