use Rattle.std.proofs.Common.{◌≢◌, ◌<◌, length, sym, subst, arith}
use Rattle.rule_kernel.specs.Frozen.{is_frozen}
use Rattle.sat_terms.specs.Literal.{var_of}
use Rattle.equiv_subst.specs.Pass.{IsEquivalent}
use Rattle.equiv_subst.specs.declared.pairs.Pair.{Pair}
use Rattle.equiv_subst.proofs.Passing.{advancing_none, advancing_more, still, advanced, exhausted, pair_read, ruled_on}
use Rattle.equiv_subst.proofs.pass.replace_all.Goals as goal

pub loop-pair-init : goal.loop-pair-init
loop-pair-init c = advancing_none (is_frozen c.args.frozen.now) c.args.kernel.now c.args.steps.now c.args.limit c.requires.rest

pub try_replace-requires-clause-forth : goal.try_replace-requires-clause-forth
try_replace-requires-clause-forth c = λ sx sy.
    let within : c.loop-pair.pair-index < length c.args.pairs.now = omega arith in
    let q : IsEquivalent (is_frozen c.args.frozen.now) c.args.kernel.now.store c.pair-item.result = subst (λ (z : Pair). IsEquivalent (is_frozen c.args.frozen.now) c.args.kernel.now.store z) (sym (pair_read c.args.pairs.now c.loop-pair.pair-index c.pair-item.result within c.pair-item.is)) (c.requires.are c.loop-pair.pair-index within) in
    still (is_frozen c.args.frozen.now) c.args.kernel.now c.loop-pair.kernel c.loop-pair.pair-index c.args.steps.now c.loop-pair.steps c.args.limit c.pair-item.result.lit c.pair-item.result.to c.loop-pair.invariant q.forth sx sy

pub try_replace-requires-clause-back : goal.try_replace-requires-clause-back
try_replace-requires-clause-back c = λ sy sx.
    let within : c.loop-pair.pair-index < length c.args.pairs.now = omega arith in
    let q : IsEquivalent (is_frozen c.args.frozen.now) c.args.kernel.now.store c.pair-item.result = subst (λ (z : Pair). IsEquivalent (is_frozen c.args.frozen.now) c.args.kernel.now.store z) (sym (pair_read c.args.pairs.now c.loop-pair.pair-index c.pair-item.result within c.pair-item.is)) (c.requires.are c.loop-pair.pair-index within) in
    still (is_frozen c.args.frozen.now) c.args.kernel.now c.loop-pair.kernel c.loop-pair.pair-index c.args.steps.now c.loop-pair.steps c.args.limit c.pair-item.result.to c.pair-item.result.lit c.loop-pair.invariant q.back sy sx

pub returns-in_err-try_replace-clause-ruled : goal.returns-in_err-try_replace-clause-ruled
returns-in_err-try_replace-clause-ruled c =
    let within : c.loop-pair.pair-index < length c.args.pairs.now = omega arith in
    let e = pair_read c.args.pairs.now c.loop-pair.pair-index c.pair-item.result within c.pair-item.is in
    ruled_on (is_frozen c.args.frozen.now) c.args.kernel.now c.loop-pair.kernel c.try_replace.new.kernel c.args.pairs.now c.loop-pair.pair-index c.args.steps.now c.loop-pair.steps c.args.limit c.pair-item.result within e c.requires.are c.requires.apart c.loop-pair.invariant c.try_replace.ensures.ruled

pub returns-then-not-branch-clause-ruled : goal.returns-then-not-branch-clause-ruled
returns-then-not-branch-clause-ruled c =
    let within : c.loop-pair.pair-index < length c.args.pairs.now = omega arith in
    let e = pair_read c.args.pairs.now c.loop-pair.pair-index c.pair-item.result within c.pair-item.is in
    ruled_on (is_frozen c.args.frozen.now) c.args.kernel.now c.loop-pair.kernel c.try_replace.new.kernel c.args.pairs.now c.loop-pair.pair-index c.args.steps.now c.loop-pair.steps c.args.limit c.pair-item.result within e c.requires.are c.requires.apart c.loop-pair.invariant c.try_replace.ensures.ruled

pub returns-then-not-branch-clause-done : goal.returns-then-not-branch-clause-done
returns-then-not-branch-clause-done c =
    exhausted (is_frozen c.args.frozen.now) c.args.kernel.now c.loop-pair.kernel c.try_replace.new.kernel c.loop-pair.pair-index c.args.steps.now c.loop-pair.steps c.try_replace.new.steps c.args.limit c.pair-item.result.lit
    c.loop-pair.invariant c.try_replace.ensures.ruled (rw c.if-not-branch.true at c.in_ok-try_replace.ensures.done)

pub loop-pair-preserved : goal.loop-pair-preserved
loop-pair-preserved c =
    let within : c.loop-pair.pair-index < length c.args.pairs.now = omega arith in
    let e = pair_read c.args.pairs.now c.loop-pair.pair-index c.pair-item.result within c.pair-item.is in
    let q : IsEquivalent (is_frozen c.args.frozen.now) c.args.kernel.now.store c.pair-item.result = subst (λ (z : Pair). IsEquivalent (is_frozen c.args.frozen.now) c.args.kernel.now.store z) (sym e) (c.requires.are c.loop-pair.pair-index within) in
    let apart : var_of c.pair-item.result.lit ≢ var_of c.pair-item.result.to = subst (λ (z : Pair). var_of z.lit ≢ var_of z.to) (sym e) (c.requires.apart c.loop-pair.pair-index within) in
    advancing_more (is_frozen c.args.frozen.now) c.args.kernel.now c.loop-pair.kernel c.try_replace.new.kernel c.loop-pair.pair-index c.args.steps.now c.loop-pair.steps c.try_replace.new.steps c.args.limit c.pair-item.result.lit c.pair-item.result.to
    (q.free apart) (λ z. (q.from, q.to)) c.loop-pair.invariant c.try_replace.ensures.ruled (rw c.if-not-branch.false at c.in_ok-try_replace.ensures.done)

pub returns-clause-done : goal.returns-clause-done
returns-clause-done c =
    let some = c.requires.some in
    let past : 0 < c.loop-pair.pair-index = omega arith in
    advanced (is_frozen c.args.frozen.now) c.args.kernel.now c.loop-pair.kernel c.loop-pair.pair-index c.args.steps.now c.loop-pair.steps c.args.limit past c.loop-pair.invariant
