use Rattle.rooted_trails.proofs.Reasons.{rooted_push, unit_reason}
use Rattle.rooted_scenes.proofs.scene.Scene.imply.Goals as goal

pub invariant_of-self : goal.invariant_of-self
invariant_of-self c =
    rw c.assign.ensures.steps
    (rooted_push c.self.inside.store c.self.inside.trail.steps _ c.self.invariant
    (unit_reason c.self.inside.store c.self.inside.trail.steps _ c.args.reason (c.is_implied.ensures.live c.if-is_implied.true) (c.is_implied.ensures.unit c.if-is_implied.true)))
