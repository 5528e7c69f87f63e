use Rattle.std.proofs.Common.{arith, ◌≡◌, ◌≤◌, ◌<◌, length, ℕ}
use Rattle.card_propagator.proofs.Finding.{each_spared}
use Rattle.card_propagator.proofs.due.first_due.Goals as goal

pub returns-clause-none : goal.returns-clause-none
returns-clause-none c = each_spared _ _ _ (λ (i : ℕ) (lt : i < length c.args.lits.now). c.loop-i.invariant.spared i (omega (arith, c.loop-i-test.false)) lt)
