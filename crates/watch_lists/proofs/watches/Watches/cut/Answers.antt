use Rattle.std.proofs.Common.{ap, length, arith}
use Rattle.std.proofs.lemmas.List.{length-map}
use Rattle.trail_state.specs.declared.trail.Step.{Step}
use Rattle.watch_lists.proofs.Following.{follows_cut}
use Rattle.watch_lists.proofs.watches.Watches.cut.Goals as goal

pub returns-clause-follows : goal.returns-clause-follows
returns-clause-follows c =
    let a = ap length c.lits.ensures in
    let b = length-map c.args.trail.now.steps (λ (x : Step). x.lit) in
    let l = c.lower-self-inside.ensures.right in
    rw (← c.self.view_is) (λ s before level h back. follows_cut _ s before c.args.trail.now level c.lower-self-inside.result back c.lower-self-inside.ensures.left (omega arith) h)
