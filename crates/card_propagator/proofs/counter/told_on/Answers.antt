use Rattle.std.proofs.Common.{◌≡◌, ◌*◌, Some, None, true, false, sym}
use Rattle.sat_terms.specs.Literal.{pos_lit}
use Rattle.user_propagator.specs.Board.{trail_value}
use Rattle.card_propagator.proofs.Valuing.{told_up, told_down, told_none}
use Rattle.card_propagator.proofs.counter.told_on.Goals as goal

pub returns-in-Some-true : goal.returns-in-Some-true
returns-in-Some-true c =
    let h : trail_value c.args.desk.now.seen (pos_lit c.args.var) ≡ Some true = cc in
    rw c.positive-in-Some-true.ensures (sym (told_up _ _ c.requires h))

pub returns-in-Some-false : goal.returns-in-Some-false
returns-in-Some-false c =
    let h : trail_value c.args.desk.now.seen (pos_lit c.args.var) ≡ Some false = cc in
    rw c.negative.ensures (sym (told_down _ _ c.requires h))

pub returns-in-None : goal.returns-in-None
returns-in-None c =
    let h : trail_value c.args.desk.now.seen (pos_lit c.args.var) ≡ None = cc in
    sym (told_none c.args.desk.now.seen c.args.var h)
