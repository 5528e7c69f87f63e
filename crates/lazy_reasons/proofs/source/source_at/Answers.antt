use Rattle.std.proofs.Common.{◌∙◌, sym}
use Rattle.trail_state.proofs.Places.{lit_read}
use Rattle.lazy_reasons.proofs.Rows.{asked_nothing}
use Rattle.lazy_reasons.proofs.Finding.{stored_source, given_source}
use Rattle.lazy_reasons.proofs.Standing.{stored_in, given_in}
use Rattle.lazy_reasons.proofs.source.source_at.Goals as goal

pub returns-in-Clause-clause-asked : goal.returns-in-Clause-clause-asked
returns-in-Clause-clause-asked g c = asked_nothing _ _

pub returns-in-Clause-clause-source : goal.returns-in-Clause-clause-source
returns-in-Clause-clause-source g c = stored_source _ _ _ _ _ c.requires.ready.rooted c.requires.implied (sym c.reason_at.ensures ∙ c.in-Clause.is)

pub returns-in_ok-ask_reason-in-Theory-clause-source : goal.returns-in_ok-ask_reason-in-Theory-clause-source
returns-in_ok-ask_reason-in-Theory-clause-source g c =
    given_source _ _ _ _ _ _ _ _ c.requires.ready c.law_shape.ensures c.requires.implied (sym c.reason_at.ensures ∙ c.in-Theory.is)
    (lit_read c.args.trail.now.steps c.args.place c.index-lits-place.result c.requires.implied.within (rw c.lits.ensures at c.index-lits-place.is))
    c.in_ok-ask_reason-in-Theory.ensures.given

pub returns-in-Clause-clause-from : goal.returns-in-Clause-clause-from
returns-in-Clause-clause-from g c =
    stored_in c.args.store.now c.args.bridge.now.desk.seen _ c.in-Clause.id
    (stored_source _ _ _ _ _ c.requires.ready.rooted c.requires.implied (sym c.reason_at.ensures ∙ c.in-Clause.is)).live

pub returns-in_ok-ask_reason-in-Theory-clause-from : goal.returns-in_ok-ask_reason-in-Theory-clause-from
returns-in_ok-ask_reason-in-Theory-clause-from g c =
    given_in _ _ _ _ _ _ _ c.requires.ready c.in_ok-ask_reason-in-Theory.ensures.asked c.requires.implied (sym c.reason_at.ensures ∙ c.in-Theory.is)
    (lit_read c.args.trail.now.steps c.args.place c.index-lits-place.result c.requires.implied.within (rw c.lits.ensures at c.index-lits-place.is))
    c.in_ok-ask_reason-in-Theory.ensures.given
