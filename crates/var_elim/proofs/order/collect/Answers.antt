use Rattle.std.proofs.Common.{◌≤◌, arith, length}
use Rattle.rule_kernel.specs.Frozen.{is_frozen}
use Rattle.var_elim.proofs.Choosing.{ranks_sorted, filling_queued, filling_all}
use Rattle.var_elim.proofs.order.collect.Goals as goal

pub returns-clause-queued : goal.returns-clause-queued
returns-clause-queued c =
    let all = ranks_sorted (is_frozen c.args.frozen.now) c.args.kernel.now.marked.vars c.in_ok-all.all.items c.sort_unstable.new.self.items c.in_ok-all.ensures c.sort_unstable.ensures.permutation in
    let le : length c.as_slice-ranked-items.result.now ≤ c.loop-ranked.ranked-index = omega arith in
    filling_queued (is_frozen c.args.frozen.now) c.args.kernel.now c.as_slice-ranked-items.result.now c.loop-ranked.queue.members c.loop-ranked.ranked-index (rw c.as_slice-ranked-items.ensures.value all) c.loop-ranked.invariant le

pub returns-clause-all : goal.returns-clause-all
returns-clause-all c =
    let all = ranks_sorted (is_frozen c.args.frozen.now) c.args.kernel.now.marked.vars c.in_ok-all.all.items c.sort_unstable.new.self.items c.in_ok-all.ensures c.sort_unstable.ensures.permutation in
    let le : length c.as_slice-ranked-items.result.now ≤ c.loop-ranked.ranked-index = omega arith in
    filling_all (is_frozen c.args.frozen.now) c.args.kernel.now c.as_slice-ranked-items.result.now c.loop-ranked.queue.members c.loop-ranked.ranked-index (rw c.as_slice-ranked-items.ensures.value all) c.loop-ranked.invariant le
