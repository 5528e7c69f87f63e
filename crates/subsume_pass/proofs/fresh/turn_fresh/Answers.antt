use Rattle.std.proofs.Common.{◌≡◌, ◌<◌, ◌-◌, ℕ, List, true, length, get_or, ap, arith}
use Rattle.sat_terms.specs.Literal.{has}
use Rattle.clause_store.specs.Stored.{slot, slot_lits}
use Rattle.pass_terms.specs.Ruled.Ruled.{none}
use Rattle.subsume_pass.specs.Choosing.{AreSources}
use Rattle.subsume_pass.specs.Trying.{StaysFree, GoesOut, GetsCut, Halts}
use Rattle.subsume_pass.proofs.Seeking.{passed_free, passed_went, passed_shrank, halted}
use Rattle.firm_terms.proofs.Emptying.{refuted_at}
use Rattle.subsume_pass.proofs.Trying.{last_read, ruled_settled}
use Rattle.subsume_pass.proofs.fresh.turn_fresh.Goals as goal

-- the last of a list that is not empty stands there
last_there : (ids fresh : List ℕ) (id : ℕ) → 0 < length fresh → ids ≡ fresh → id ≡ get_or ids (length ids - 1) id → has fresh id ≡ true
last_there ids fresh id some same read =
    let e = ap length same in
    let lt : length ids - 1 < length ids = omega arith in
    rw same at (last_read ids (length ids - 1) id lt read)

pub sources-requires : goal.sources-requires
sources-requires c =
    let there = last_there c.fresh-fresh.result.now c.args.kernel.now.waiting.fresh c.index-fresh-fresh.result c.requires.some c.fresh-fresh.ensures c.index-fresh-fresh.is in
    (c.law_promises.ensures.fresh c.index-fresh-fresh.result there)

pub returns-in_err-ids-clause-ruled : goal.returns-in_err-ids-clause-ruled
returns-in_err-ids-clause-ruled c = none

pub returns-in-Free-clause-ruled : goal.returns-in-Free-clause-ruled
returns-in-Free-clause-ruled c = ruled_settled c.args.kernel.now c.seek_change.new.kernel c.settle_fresh.new.self c.seek_change.ensures.ruled c.settle_fresh.ensures.rest

pub returns-in-Free-clause-passed : goal.returns-in-Free-clause-passed
returns-in-Free-clause-passed c =
    let there = last_there c.fresh-fresh.result.now c.args.kernel.now.waiting.fresh c.index-fresh-fresh.result c.requires.some c.fresh-fresh.ensures c.index-fresh-fresh.is in
    let h : AreSources c.args.kernel.now.store c.index-fresh-fresh.result c.as_slice.result.now = rw c.as_slice.ensures.value c.in_ok-ids.ensures in
    let k : StaysFree c.args.kernel.now c.seek_change.new.kernel c.index-fresh-fresh.result c.as_slice.result.now c.args.steps.now c.seek_change.new.steps c.args.limit = rw c.in-Free.is at c.in_ok-seek_change.ensures.fated in
    passed_free c.args.kernel.now c.seek_change.new.kernel c.settle_fresh.new.self c.index-fresh-fresh.result c.as_slice.result.now c.args.steps.now c.seek_change.new.steps c.args.limit there h k c.settle_fresh.ensures.due c.settle_fresh.ensures.fresh c.settle_fresh.ensures.rest

pub returns-in-Went-clause-passed : goal.returns-in-Went-clause-passed
returns-in-Went-clause-passed c =
    let there = last_there c.fresh-fresh.result.now c.args.kernel.now.waiting.fresh c.index-fresh-fresh.result c.requires.some c.fresh-fresh.ensures c.index-fresh-fresh.is in
    let h : AreSources c.args.kernel.now.store c.index-fresh-fresh.result c.as_slice.result.now = rw c.as_slice.ensures.value c.in_ok-ids.ensures in
    let k : GoesOut c.args.kernel.now c.seek_change.new.kernel c.index-fresh-fresh.result (length c.as_slice.result.now) c.args.steps.now c.seek_change.new.steps c.args.limit = rw c.in-Went.is at c.in_ok-seek_change.ensures.fated in
    passed_went c.args.kernel.now c.seek_change.new.kernel c.index-fresh-fresh.result c.as_slice.result.now c.args.steps.now c.seek_change.new.steps c.args.limit there c.law_promises.ensures c.requires.few h k

pub returns-then-count-eq0-clause-passed : goal.returns-then-count-eq0-clause-passed
returns-then-count-eq0-clause-passed c =
    let h : AreSources c.args.kernel.now.store c.index-fresh-fresh.result c.as_slice.result.now = rw c.as_slice.ensures.value c.in_ok-ids.ensures in
    let k : GetsCut c.args.kernel.now c.seek_change.new.kernel c.index-fresh-fresh.result c.in-Shrank.next (length c.as_slice.result.now) c.args.steps.now c.seek_change.new.steps c.args.limit = rw c.in-Shrank.is at c.in_ok-seek_change.ensures.fated in
    let is : c.get-count.result.now ≡ slot_lits (slot c.seek_change.new.kernel.store c.in-Shrank.next) = rw c.store.ensures at c.get-count.ensures.value in
    let few = h.few in
    let sp = k.spent in
    record { empty = refuted_at c.seek_change.new.kernel.store c.in-Shrank.next c.get-count.result.now k.cut.came is c.if-count-eq0.true; spent = omega arith }

pub returns-in-Shrank-clause-passed : goal.returns-in-Shrank-clause-passed
returns-in-Shrank-clause-passed c =
    let there = last_there c.fresh-fresh.result.now c.args.kernel.now.waiting.fresh c.index-fresh-fresh.result c.requires.some c.fresh-fresh.ensures c.index-fresh-fresh.is in
    let h : AreSources c.args.kernel.now.store c.index-fresh-fresh.result c.as_slice.result.now = rw c.as_slice.ensures.value c.in_ok-ids.ensures in
    let k : GetsCut c.args.kernel.now c.seek_change.new.kernel c.index-fresh-fresh.result c.in-Shrank.next (length c.as_slice.result.now) c.args.steps.now c.seek_change.new.steps c.args.limit = rw c.in-Shrank.is at c.in_ok-seek_change.ensures.fated in
    passed_shrank c.args.kernel.now c.seek_change.new.kernel c.index-fresh-fresh.result c.in-Shrank.next c.as_slice.result.now c.args.steps.now c.seek_change.new.steps c.args.limit there c.law_promises.ensures c.requires.few h k

pub returns-clause-passed : goal.returns-clause-passed
returns-clause-passed c =
    let h : AreSources c.args.kernel.now.store c.index-fresh-fresh.result c.as_slice.result.now = rw c.as_slice.ensures.value c.in_ok-ids.ensures in
    let k : Halts c.args.kernel.now c.seek_change.new.kernel (length c.as_slice.result.now) c.args.steps.now c.seek_change.new.steps c.args.limit = rw c.in-Halted.is at c.in_ok-seek_change.ensures.fated in
    halted c.args.kernel.now c.seek_change.new.kernel c.index-fresh-fresh.result c.as_slice.result.now c.args.steps.now c.seek_change.new.steps c.args.limit c.requires.some h k
