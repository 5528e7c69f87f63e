use Rattle.std.proofs.Common.{◌≡◌, ◌<◌, length, arith, inl, inr, ◌++◌, ◌∷◌, []}
use Rattle.std.proofs.lemmas.List.{length_push}
use Rattle.vivify_pass.proofs.Probing.{probing_skip, probing_assume, free_at, probed_false, probed_true, probed_end}
use Rattle.vivify_pass.proofs.probe.probe.Goals as goal

pub loop-lit-preserved-then-is_left_out : goal.loop-lit-preserved-then-is_left_out
loop-lit-preserved-then-is_left_out c =
    let within : c.loop-lit.lit-index < length c.args.lits.now = omega arith in
    let out = rw c.as_slice.ensures.value at (c.is_left_out.ensures.yes c.if-is_left_out.true) in
    (probing_skip c.args.store.now c.args.id c.args.lits.now c.loop-lit.lit-index c.lit-item.result c.loop-lit.kept.items c.args.watches.now c.loop-lit.watches c.args.trail.now c.loop-lit.trail within c.lit-item.is out.0 out.1 c.loop-lit.invariant.0, omega arith, omega arith, omega arith)

pub assume-requires-clause-free : goal.assume-requires-clause-free
assume-requires-clause-free c =
    let within : c.loop-lit.lit-index < length c.args.lits.now = omega arith in
    rw c.as_slice-in-loop-lit.ensures.value
    (free_at c.args.store.now c.args.id c.args.lits.now c.loop-lit.lit-index c.lit-item.result c.loop-lit.kept.items c.args.watches.now c.loop-lit.watches c.args.trail.now c.loop-lit.trail within c.lit-item.is (rw c.as_slice.ensures.value at (c.is_left_out.ensures.no c.if-is_left_out.false)) c.loop-lit.invariant.0)

pub returns-in-False-clause-probed : goal.returns-in-False-clause-probed
returns-in-False-clause-probed c =
    let within : c.loop-lit.lit-index < length c.args.lits.now = omega arith in
    let free = rw c.as_slice.ensures.value at (c.is_left_out.ensures.no c.if-is_left_out.false) in
    rw c.in_ok-push.ensures.items
    (probed_false c.args.store.now c.args.id c.args.lits.now c.loop-lit.lit-index c.lit-item.result c.loop-lit.kept.items c.args.watches.now c.loop-lit.watches c.args.trail.now c.loop-lit.trail within c.lit-item.is free c.loop-lit.invariant.0
    (rw (c.in-False.is, c.as_slice-in-loop-lit.ensures.value) at c.in_ok-look.ensures.looked))

pub returns-in-True-clause-probed : goal.returns-in-True-clause-probed
returns-in-True-clause-probed c =
    let within : c.loop-lit.lit-index < length c.args.lits.now = omega arith in
    let free = rw c.as_slice.ensures.value at (c.is_left_out.ensures.no c.if-is_left_out.false) in
    rw (c.in_ok-push-in-True.ensures.items, c.in_ok-push.ensures.items)
    (probed_true c.args.store.now c.args.id c.args.lits.now c.loop-lit.lit-index c.lit-item.result c.in-True.found c.assume.new.trail.level c.loop-lit.kept.items c.args.watches.now c.loop-lit.watches c.assume.new.watches c.args.trail.now c.loop-lit.trail c.assume.new.trail
    within c.lit-item.is free c.loop-lit.invariant.0 (rw (c.in-True.is, c.as_slice-in-loop-lit.ensures.value) at c.in_ok-look.ensures.leaves) c.assume.ensures.longer c.law_shape-in-True.ensures
    (rw (c.in-True.is, c.as_slice-in-loop-lit.ensures.value) at c.in_ok-look.ensures.looked))

pub loop-lit-preserved : goal.loop-lit-preserved
loop-lit-preserved c =
    let within : c.loop-lit.lit-index < length c.args.lits.now = omega arith in
    let free = rw c.as_slice.ensures.value at (c.is_left_out.ensures.no c.if-is_left_out.false) in
    let rest = c.loop-lit.invariant in (
      rw c.in_ok-push.ensures.items
          (probing_assume c.args.store.now c.args.id c.args.lits.now c.loop-lit.lit-index c.lit-item.result c.loop-lit.kept.items c.args.watches.now c.loop-lit.watches c.assume.new.watches c.args.trail.now c.loop-lit.trail c.assume.new.trail
          within c.lit-item.is free c.loop-lit.invariant.0 c.assume.ensures.kept c.assume.ensures.declared (rw (c.in-Open.is, c.as_slice-in-loop-lit.ensures.value) at c.in_ok-look.ensures.leaves) c.assume.ensures.longer
          (rw (c.in-Open.is, c.as_slice-in-loop-lit.ensures.value) at c.in_ok-look.ensures.looked) c.assume.ensures.over c.assume.ensures.lists),
      omega arith,
      omega arith,
      rw c.in_ok-push.ensures.items (let n = length_push c.loop-lit.kept.items c.lit-item.result in let e = c.loop-lit.invariant.3 in omega (arith, n, e)),
    )

pub returns-clause-probed : goal.returns-clause-probed
returns-clause-probed c =
    let past : c.loop-lit.lit-index ≡ length c.args.lits.now = omega arith in
    probed_end c.args.store.now c.args.id c.args.lits.now c.loop-lit.lit-index c.loop-lit.kept.items c.args.watches.now c.loop-lit.watches c.args.trail.now c.loop-lit.trail past c.loop-lit.invariant.0

pub returns-in-False-clause-counted : goal.returns-in-False-clause-counted
returns-in-False-clause-counted c =
    let n = length_push c.loop-lit.kept.items c.lit-item.result in
    let e = c.loop-lit.invariant.3 in
    rw c.in_ok-push.ensures.items (inl (omega (arith, n, e)))

pub returns-in-True-clause-counted : goal.returns-in-True-clause-counted
returns-in-True-clause-counted c =
    let n = length_push c.loop-lit.kept.items c.lit-item.result in
    let m = length_push (c.loop-lit.kept.items ++ c.lit-item.result ∷ []) c.in-True.found in
    let e = c.loop-lit.invariant.3 in
    rw (c.in_ok-push-in-True.ensures.items, c.in_ok-push.ensures.items) (inr (omega (arith, n, m, e)))

pub returns-clause-counted : goal.returns-clause-counted
returns-clause-counted c = inl c.loop-lit.invariant.3
