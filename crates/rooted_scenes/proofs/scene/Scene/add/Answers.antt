use Rattle.rooted_trails.proofs.Reasons.{rooted_filled}
use Rattle.rooted_scenes.proofs.scene.Scene.add.Goals as goal

pub invariant_of-self-2 : goal.invariant_of-self-2
invariant_of-self-2 c = rooted_filled c.self.inside.store c.add.new.self c.in_ok-add.field-0 _ c.in_ok-add.ensures.ok c.self.inside.trail.steps c.self.invariant
