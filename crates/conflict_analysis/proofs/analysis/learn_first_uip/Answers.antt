use Rattle.std.proofs.Common.{◌∙◌, ap}
use Rattle.sat_terms.specs.Literal.{neg}
use Rattle.trail_state.proofs.Places.{lit_read}
use Rattle.rooted_trails.proofs.Reasons.{under_reasons}
use Rattle.lazy_reasons.proofs.Rows.{asked_nothing}
use Rattle.conflict_analysis.proofs.Lessons.{lesson}
use Rattle.conflict_analysis.proofs.analysis.learn_first_uip.Goals as goal

pub returns-in_err-begin-clause-asked : goal.returns-in_err-begin-clause-asked
returns-in_err-begin-clause-asked g c = asked_nothing _ _

pub shorten-requires-clause-reasons : goal.shorten-requires-clause-reasons
shorten-requires-clause-reasons g c = under_reasons _ _ _ c.in_ok-at.ensures.ready.rooted

pub returns-clause-normal : goal.returns-clause-normal
returns-clause-normal g c =
    rw c.glue-glue.ensures.same
    (lesson _ _ _ c.in_ok-at.at c.shorten.new.self c.finish.new.self.lits c.neg-owed.result c.highest-back_level.result c.in_ok-at.ensures.ready c.law_shape.ensures (c.in_ok-shorten.ensures.resolved _ c.in_ok-at.ensures.resolved) c.requires.above
    (record {
      bound = rw c.learned.ensures at c.highest-back_level.ensures.bound;
      attained = rw c.learned.ensures at c.highest-back_level.ensures.attained;
    })
    (c.neg-owed.ensures ∙ ap neg (lit_read c.args.trail.now.steps c.in_ok-at.at c.index-lits-at.result c.in_ok-at.ensures.resolved.uip.within (rw c.lits.ensures at c.index-lits-at.is)))
    c.in_ok-finish.ensures.rising c.in_ok-finish.ensures.same).normal

pub returns-clause-is_false : goal.returns-clause-is_false
returns-clause-is_false g c =
    rw c.glue-glue.ensures.same
    (lesson _ _ _ c.in_ok-at.at c.shorten.new.self c.finish.new.self.lits c.neg-owed.result c.highest-back_level.result c.in_ok-at.ensures.ready c.law_shape.ensures (c.in_ok-shorten.ensures.resolved _ c.in_ok-at.ensures.resolved) c.requires.above
    (record {
      bound = rw c.learned.ensures at c.highest-back_level.ensures.bound;
      attained = rw c.learned.ensures at c.highest-back_level.ensures.attained;
    })
    (c.neg-owed.ensures ∙ ap neg (lit_read c.args.trail.now.steps c.in_ok-at.at c.index-lits-at.result c.in_ok-at.ensures.resolved.uip.within (rw c.lits.ensures at c.index-lits-at.is)))
    c.in_ok-finish.ensures.rising c.in_ok-finish.ensures.same).is_false

pub returns-clause-implied : goal.returns-clause-implied
returns-clause-implied g c =
    rw c.glue-glue.ensures.same
    (lesson _ _ _ c.in_ok-at.at c.shorten.new.self c.finish.new.self.lits c.neg-owed.result c.highest-back_level.result c.in_ok-at.ensures.ready c.law_shape.ensures (c.in_ok-shorten.ensures.resolved _ c.in_ok-at.ensures.resolved) c.requires.above
    (record {
      bound = rw c.learned.ensures at c.highest-back_level.ensures.bound;
      attained = rw c.learned.ensures at c.highest-back_level.ensures.attained;
    })
    (c.neg-owed.ensures ∙ ap neg (lit_read c.args.trail.now.steps c.in_ok-at.at c.index-lits-at.result c.in_ok-at.ensures.resolved.uip.within (rw c.lits.ensures at c.index-lits-at.is)))
    c.in_ok-finish.ensures.rising c.in_ok-finish.ensures.same).implied

pub returns-clause-from : goal.returns-clause-from
returns-clause-from g c =
    rw c.glue-glue.ensures.same
    (lesson _ _ _ c.in_ok-at.at c.shorten.new.self c.finish.new.self.lits c.neg-owed.result c.highest-back_level.result c.in_ok-at.ensures.ready c.law_shape.ensures (c.in_ok-shorten.ensures.resolved _ c.in_ok-at.ensures.resolved) c.requires.above
    (record {
      bound = rw c.learned.ensures at c.highest-back_level.ensures.bound;
      attained = rw c.learned.ensures at c.highest-back_level.ensures.attained;
    })
    (c.neg-owed.ensures ∙ ap neg (lit_read c.args.trail.now.steps c.in_ok-at.at c.index-lits-at.result c.in_ok-at.ensures.resolved.uip.within (rw c.lits.ensures at c.index-lits-at.is)))
    c.in_ok-finish.ensures.rising c.in_ok-finish.ensures.same).from

pub returns-clause-asserting : goal.returns-clause-asserting
returns-clause-asserting g c =
    rw c.glue-glue.ensures.same
    (lesson _ _ _ c.in_ok-at.at c.shorten.new.self c.finish.new.self.lits c.neg-owed.result c.highest-back_level.result c.in_ok-at.ensures.ready c.law_shape.ensures (c.in_ok-shorten.ensures.resolved _ c.in_ok-at.ensures.resolved) c.requires.above
    (record {
      bound = rw c.learned.ensures at c.highest-back_level.ensures.bound;
      attained = rw c.learned.ensures at c.highest-back_level.ensures.attained;
    })
    (c.neg-owed.ensures ∙ ap neg (lit_read c.args.trail.now.steps c.in_ok-at.at c.index-lits-at.result c.in_ok-at.ensures.resolved.uip.within (rw c.lits.ensures at c.index-lits-at.is)))
    c.in_ok-finish.ensures.rising c.in_ok-finish.ensures.same).asserting

pub returns-clause-met : goal.returns-clause-met
returns-clause-met g c = rw (c.glue-glue.ensures.same, c.in_ok-finish.ensures.met) (c.in_ok-shorten.ensures.resolved _ c.in_ok-at.ensures.resolved).met_false
