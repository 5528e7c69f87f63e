use Rattle.std.proofs.Common.{rules}
use Rattle.rule_kernel.specs.Frozen.{is_frozen}
use Rattle.equiv_subst.proofs.Turning.{exploring_met}
use Rattle.equiv_subst.proofs.walk.Walk.explore.Goals as goal

pub loop-self-init : goal.loop-self-init
loop-self-init c =
    rw c.in_ok-meet.ensures
    (exploring_met c.args.graph.now (is_frozen c.args.frozen.now) c.args.self.now c.args.pairs.now.items c.args.lit c.args.steps.now c.args.limit c.law_places.ensures c.requires.walks c.requires.over (search rules) c.requires.within c.requires.rest)
