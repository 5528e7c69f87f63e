use Rattle.std.proofs.Common.{◌∙◌, take}
use Rattle.std.specs.Prelude.{Result, Ok, Err, OnErr}
use Rattle.watch_lists.specs.Watching.{copied}
use Rattle.watch_lists.proofs.copies.append.Goals as goal

on_err : {A E : Type 0} (r : Result A E) (P : Type 0) → P → OnErr r P
on_err (Ok a) P h = tt
on_err (Err e) P h = h

pub returns-in_err-push-3-clause-err : goal.returns-in_err-push-3-clause-err
returns-in_err-push-3-clause-err c = on_err c.from_residual-in_err-push-3.result _ (record { more = copied c.args.first c.args.second (take c.loop-lit.lit-index c.args.lits.now); longer = c.in_err-push-3.ensures.items ∙ c.loop-lit.invariant })
