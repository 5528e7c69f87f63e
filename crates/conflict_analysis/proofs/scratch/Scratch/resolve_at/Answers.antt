use Rattle.std.proofs.Common.{sym, ◌∙◌}
use Rattle.lazy_reasons.proofs.Rows.{asked_nothing}
use Rattle.conflict_analysis.proofs.Turns.{resolving_off, implied_here, marking_down, reason_off, resolving_next}
use Rattle.conflict_analysis.proofs.scratch.Scratch.resolve_at.Goals as goal

pub returns-then-not-is_marked_at-clause-resolving : goal.returns-then-not-is_marked_at-clause-resolving
returns-then-not-is_marked_at-clause-resolving g c =
    resolving_off _ _ _ _ _ c.requires.resolving c.law_shape.ensures c.requires.within (sym c.is_marked_at.ensures ∙ c.if-not-is_marked_at.true)

pub returns-then-not-is_marked_at-clause-asked : goal.returns-then-not-is_marked_at-clause-asked
returns-then-not-is_marked_at-clause-asked g c = asked_nothing _ _

pub source_at-requires-clause-implied : goal.source_at-requires-clause-implied
source_at-requires-clause-implied g c =
    let on = sym c.is_marked_at.ensures ∙ c.if-not-is_marked_at.false in
    implied_here _ _ _ _ _ c.requires.resolving c.law_shape.ensures c.requires.within (c.requires.more on) on

pub mark_all-requires-clause-marking : goal.mark_all-requires-clause-marking
mark_all-requires-clause-marking g c =
    let on = sym c.is_marked_at.ensures ∙ c.if-not-is_marked_at.false in
    marking_down _ _ _ _ _ c.requires.resolving c.law_shape.ensures c.requires.within _ c.drop_one.ensures (c.requires.more on) on

pub mark_all-requires-clause-are_false : goal.mark_all-requires-clause-are_false
mark_all-requires-clause-are_false g c =
    let on = sym c.is_marked_at.ensures ∙ c.if-not-is_marked_at.false in
    rw (c.drop_one.ensures, c.lits.ensures)
    (reason_off _ _ _ _ _ c.requires.resolving c.law_shape.ensures c.requires.within _ c.in_ok-reason.ensures.source.reason on)

pub returns-clause-resolving : goal.returns-clause-resolving
returns-clause-resolving g c =
    let on = sym c.is_marked_at.ensures ∙ c.if-not-is_marked_at.false in
    resolving_next _ _ _ _ _ c.requires.resolving c.law_shape.ensures c.requires.within _ _ _ _ c.in_ok-reason.ensures.asked c.in_ok-reason.ensures.ready c.in_ok-reason.ensures.source c.lits.ensures c.in_ok-reason.ensures.from (c.requires.more on)
    c.in_ok-mark_all.ensures.marking (rw c.drop_one.ensures at c.in_ok-mark_all.ensures.grows) c.in_ok-mark_all.ensures.covered (rw c.drop_one.ensures at c.in_ok-mark_all.ensures.from)
