use Rattle.std.proofs.Common.{arith, ◌≡◌, ◌≤◌, length}
use Rattle.card_propagator.proofs.Finding.{falses-le}
use Rattle.card_propagator.proofs.due.examine.Goals as goal

pub returns-then-heavy-spare-clause-look : goal.returns-then-heavy-spare-clause-look
returns-then-heavy-spare-clause-look c =
    let few = falses-le c.args.table.now c.args.lits.now in
    record {
      holds = omega (arith, c.requires.down, few);
      spare = λ l _. omega (arith, c.requires.down, few, c.requires.heavy l);
    }
