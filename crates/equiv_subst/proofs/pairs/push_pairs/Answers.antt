use Rattle.std.proofs.Common.{◌<◌, ◌≤◌, length, arith}
use Rattle.rule_kernel.specs.Frozen.{is_frozen}
use Rattle.equiv_subst.proofs.Pairing.{pairing_same, pairing_more, pairing_all}
use Rattle.equiv_subst.proofs.pairs.push_pairs.Goals as goal
use Rattle.equiv_subst.proofs.pairs.push_pairs.Goals.{in-Some+in_ok-push, in_default}

pub loop-lit-preserved : goal.loop-lit-preserved
loop-lit-preserved c =
    let within : c.loop-lit.lit-index < length c.args.members.now = omega arith in
    elim c.match-pair_of.branch [
      | in-Some+in_ok-push w ↦
          rw (w.pairs-is, w.in_ok-push.ensures.items)
          (pairing_more (is_frozen c.args.frozen.now) c.args.members.now c.representative-to.result c.loop-lit.lit-index c.lit-item.result c.args.pairs.now.items c.loop-lit.pairs.items w.in-Some.pair
          within c.lit-item.is c.representative-to.ensures w.in-Some.ensures.some c.loop-lit.invariant)
      | in_default w ↦
          rw w.pairs-is
          (pairing_same (is_frozen c.args.frozen.now) c.args.members.now c.representative-to.result c.loop-lit.lit-index c.lit-item.result c.args.pairs.now.items c.loop-lit.pairs.items
          within c.lit-item.is w.in_default.ensures.none c.loop-lit.invariant)
    ]

pub returns-clause-frozen : goal.returns-clause-frozen
returns-clause-frozen c =
    let past : length c.args.members.now ≤ c.loop-lit.lit-index = omega arith in
    pairing_all (is_frozen c.args.frozen.now) c.args.members.now c.representative-to.result c.loop-lit.lit-index c.args.pairs.now.items c.loop-lit.pairs.items past c.loop-lit.invariant
