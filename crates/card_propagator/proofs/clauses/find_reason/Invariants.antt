use Rattle.std.proofs.Common.{◌≡◌, ◌<◌, ℕ, take, get_or, false}
use Rattle.card_propagator.specs.Counting.{rule}
use Rattle.card_propagator.specs.Cards.{is_forced}
use Rattle.card_propagator.proofs.clauses.find_reason.Given as goal

abbrev pub invariant-loop-i : goal.invariant-loop-i
invariant-loop-i l = (j : ℕ) → j < l.i → is_forced (take l.place l.desk.seen) l.lit (rule l.counter.rules (get_or l.ids j 0)) ≡ false
