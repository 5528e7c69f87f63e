use Rattle.std.proofs.Common.{◌≤◌, length, sym, ◌∙◌, arith}
use Rattle.subsume_pass.specs.Comparing.{Looks}
use Rattle.subsume_pass.specs.declared.compare.Look.TheVariants.{Same, Opposite, Neither}
use Rattle.subsume_pass.proofs.Comparing.{comparing_same, flip_first, flip_second, free_neither, all_within, all_but_one}
use Rattle.subsume_pass.proofs.compare.compare.Goals as goal
use Rattle.subsume_pass.proofs.compare.compare.Goals.{in-Same, in-Opposite+else-is_some}

pub returns-then-is_some : goal.returns-then-is_some
returns-then-is_some c =
    let l : Looks c.args.d.now c.seek-at.result c.lit-item.result Opposite = rw c.in-Opposite.is at c.at_place.ensures in
    flip_second c.args.c.now c.args.d.now c.loop-lit.lit-index c.loop-lit.at c.seek-at.result c.lit-item.result c.loop-lit.flipped (sym c.is_some.ensures ∙ c.if-is_some.true) c.requires.c c.requires.d c.loop-lit-test.true c.lit-item.is c.loop-lit.invariant l.0 l.1

pub returns-in-Neither : goal.returns-in-Neither
returns-in-Neither c =
    let l : Looks c.args.d.now c.seek-at.result c.lit-item.result Neither = rw c.in-Neither.is at c.at_place.ensures in
    free_neither c.args.c.now c.args.d.now c.loop-lit.lit-index c.loop-lit.at c.seek-at.result c.lit-item.result c.loop-lit.flipped c.requires.c c.requires.d c.loop-lit-test.true c.lit-item.is c.loop-lit.invariant c.seek-at.ensures.passed c.seek-at.ensures.met l

pub loop-lit-preserved : goal.loop-lit-preserved
loop-lit-preserved c =
    elim c.match-at_place.branch [
      | in-Same w ↦
          (let l : Looks c.args.d.now c.seek-at.result c.lit-item.result Same = rw w.in-Same.is at c.at_place.ensures in
          rw w.flipped-is
          (comparing_same c.args.c.now c.args.d.now c.loop-lit.lit-index c.loop-lit.at c.seek-at.result c.lit-item.result c.loop-lit.flipped c.requires.c c.loop-lit-test.true c.lit-item.is c.loop-lit.invariant c.seek-at.ensures.within c.seek-at.ensures.passed l.0 l.1))
      | in-Opposite+else-is_some w ↦
          (let l : Looks c.args.d.now c.seek-at.result c.lit-item.result Opposite = rw w.in-Opposite.is at c.at_place.ensures in
          rw w.flipped-is
          (flip_first c.args.c.now c.args.d.now c.loop-lit.lit-index c.loop-lit.at c.seek-at.result c.lit-item.result c.loop-lit.flipped (sym w.is_some.ensures ∙ w.if-is_some.false) c.requires.c c.loop-lit-test.true c.lit-item.is c.loop-lit.invariant c.seek-at.ensures.within c.seek-at.ensures.passed l.0 l.1))
    ]

pub returns-in-None : goal.returns-in-None
returns-in-None c =
    let past : length c.args.c.now ≤ c.loop-lit.lit-index = omega arith in
    all_within c.args.c.now c.args.d.now c.loop-lit.lit-index c.loop-lit.at past (rw c.in-None.is at c.loop-lit.invariant)

pub returns-in-Some : goal.returns-in-Some
returns-in-Some c =
    let past : length c.args.c.now ≤ c.loop-lit.lit-index = omega arith in
    let upto : c.loop-lit.lit-index ≤ length c.args.c.now = omega arith in
    all_but_one c.args.c.now c.args.d.now c.loop-lit.lit-index c.loop-lit.at c.in-Some.place c.requires.c c.requires.d past (rw c.in-Some.is at c.loop-lit.invariant) upto
