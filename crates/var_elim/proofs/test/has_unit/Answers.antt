use Rattle.std.proofs.Common.{◌<◌, ◌∙◌, sym, ap, arith, length}
use Rattle.std.proofs.lemmas.List.{get_or_default}
use Rattle.var_elim.proofs.Trying.{unit_there}
use Rattle.var_elim.proofs.test.has_unit.Goals as goal

pub returns-then-count-eq1 : goal.returns-then-count-eq1
returns-then-count-eq1 c =
    let in' : c.loop-id.id-index < length c.args.ids.now = omega arith in
    sym (unit_there c.args.store.now c.args.ids.now c.loop-id.id-index c.id-item.result in' (c.id-item.is ∙ get_or_default c.args.ids.now c.loop-id.id-index c.id-item.result 0 in') (sym (ap length c.get-count.ensures.value) ∙ c.if-count-eq1.true))
