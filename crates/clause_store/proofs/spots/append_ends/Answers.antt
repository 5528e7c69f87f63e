use Rattle.std.proofs.Common.{take}
use Rattle.std.specs.Prelude.{Result, Ok, Err, OnErr}
use Rattle.clause_store.specs.Spots.{ends}
use Rattle.clause_store.proofs.spots.append_ends.Goals as goal

on_err : {A E : Type 0} (r : Result A E) (P : Type 0) → P → OnErr r P
on_err (Ok a) P h = tt
on_err (Err e) P h = h

pub returns-in_err-end-clause-err : goal.returns-in_err-end-clause-err
returns-in_err-end-clause-err c = on_err c.from_residual.result _ (record { more = ends c.args.lists.now (take c.loop-i.i c.args.lits.now); longer = c.loop-i.invariant })
