use Rattle.conflict_analysis.proofs.Shortening.{resolved_dropped, gone_is}
use Rattle.conflict_analysis.proofs.scratch.Scratch.drop_spare.Goals as goal

pub returns-clause-resolved : goal.returns-clause-resolved
returns-clause-resolved c =
    λ b w. resolved_dropped c.args.store.now b c.args.trail.now c.args.uip c.index-learned-index.result c.args.self.now c.drop_lit.new.self c.law_shape.ensures w (c.is_spare.ensures c.if-not-is_spare.false) c.drop_lit.ensures.same c.drop_lit.ensures.left
    (λ l h. gone_is c.args.self.now.lits c.drop_lit.new.self.lits c.args.index c.index-learned-index.result l c.requires.within (rw c.learned.ensures at c.index-learned-index.is) (c.drop_lit.ensures.gone l h))
