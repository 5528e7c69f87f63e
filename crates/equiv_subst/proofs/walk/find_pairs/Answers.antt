use Rattle.std.proofs.Common.{◌≤◌, length, arith, rules}
use Rattle.rule_kernel.specs.Frozen.{is_frozen}
use Rattle.equiv_subst.proofs.Finding.{finding_none, finding_more, finding_same, found}
use Rattle.equiv_subst.proofs.walk.find_pairs.Goals as goal
use Rattle.equiv_subst.proofs.walk.find_pairs.Goals.{in-Some+in_ok-explore+else-not-branch, in_default}

pub loop-code-init : goal.loop-code-init
loop-code-init c =
    finding_none c.args.graph.now (is_frozen c.args.frozen.now) c.in_ok-walk.walk c.args.pairs.now.items c.args.steps.now c.args.limit (rw c.len.ensures at c.in_ok-walk.ensures) c.requires.none c.requires.rest

pub loop-code-preserved : goal.loop-code-preserved
loop-code-preserved c =
    elim c.match-lit_of.branch [
      | in-Some+in_ok-explore+else-not-branch w ↦
          rw (w.pairs-is, w.steps-is, w.walk-is)
          (finding_more c.args.graph.now (is_frozen c.args.frozen.now) c.loop-code.walk _ c.loop-code.pairs.items _ c.loop-code.code w.in-Some.lit c.args.steps.now c.loop-code.steps _ c.args.limit
          w.in-Some.ensures.some c.loop-code.invariant (search rules))
      | in_default w ↦
          rw (w.pairs-is, w.steps-is, w.walk-is)
          (finding_same c.args.graph.now (is_frozen c.args.frozen.now) c.loop-code.walk c.loop-code.pairs.items c.loop-code.code c.args.steps.now c.loop-code.steps c.args.limit w.in_default.ensures.none c.loop-code.invariant)
    ]

pub returns : goal.returns
returns c =
    let past : length c.args.graph.now ≤ c.loop-code.code = omega arith in
    found c.args.graph.now (is_frozen c.args.frozen.now) c.loop-code.walk c.loop-code.pairs.items c.loop-code.code c.args.steps.now c.loop-code.steps c.args.limit c.law_places.ensures past c.loop-code.invariant
