use Rattle.std.proofs.Common.{◌≡◌}
use Rattle.search_engine.specs.Searching.{clauses, StoreWithin, IsAtRest}
use Rattle.search_engine.proofs.tests.state_of.Given as goal

abbrev pub invariant-loop-numbers : goal.invariant-loop-numbers
invariant-loop-numbers l = record {
  rest : IsAtRest l.state;
  within : StoreWithin 6 (clauses l.state);
  declared : l.state.order.declared ≡ 0;
}
