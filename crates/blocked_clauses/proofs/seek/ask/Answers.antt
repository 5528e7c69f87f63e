use Rattle.std.proofs.Common.{◌≢◌, length, arith}
use Rattle.blocked_clauses.proofs.Asking.{asked_all}
use Rattle.blocked_clauses.proofs.seek.ask.Goals as goal

pub returns : goal.returns
returns c =
    let some : length c.args.others.now ≢ 0 = omega arith in
    asked_all c.args.store.now c.args.id c.args.lit c.args.others.now c.requires.holds c.requires.others
    c.loop-other.other-index c.args.steps.now c.loop-other.steps c.args.limit c.loop-other.invariant (omega arith) (omega arith) some
