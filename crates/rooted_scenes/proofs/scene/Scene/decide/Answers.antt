use Rattle.rooted_trails.proofs.Reasons.{rooted_decided}
use Rattle.rooted_scenes.proofs.scene.Scene.decide.Goals as goal

pub invariant_of-self : goal.invariant_of-self
invariant_of-self c = rw c.decide.ensures.steps (rooted_decided c.self.inside.store c.self.inside.trail.steps _ _ c.self.invariant)
