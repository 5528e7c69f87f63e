use Rattle.search_engine.proofs.Readying.{has_times}
use Rattle.search_engine.proofs.Keeping.{keeps_more}
use Rattle.search_engine.proofs.forgetting.reduce.Goals as goal

pub forget_all-requires-clause-each : goal.forget_all-requires-clause-each
forget_all-requires-clause-each c = λ id some. c.law_forgets_little.ensures.each _ _ _ id c.in_ok-ids.ensures.named (has_times _ id some)

pub forget_all-requires-clause-once : goal.forget_all-requires-clause-once
forget_all-requires-clause-once c = λ id. c.law_forgets_little.ensures.once _ _ _ id c.in_ok-ids.ensures.named

pub returns-clause-keeps : goal.returns-clause-keeps
returns-clause-keeps c =
    let k = keeps_more _ _ _ c.forget_all.ensures.keeps c.compact.ensures.keeps in
    record { learns = k.learns; standing = k.standing; within = k.within; declared = k.declared; decided = k.decided; size = k.size }
