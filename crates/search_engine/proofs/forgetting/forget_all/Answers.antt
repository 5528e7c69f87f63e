use Rattle.std.proofs.Common.{◌∙◌}
use Rattle.search_engine.proofs.Freeing.{slots_freed, freed_stands, freed_keeps}
use Rattle.search_engine.proofs.Readying.{redundant_live}
use Rattle.search_engine.proofs.forgetting.forget_all.Goals as goal

pub detach_all-requires : goal.detach_all-requires
detach_all-requires c = record {
  all = λ id there. let live = redundant_live _ (c.requires.each id there).redundant in (c.requires.stands.ready.attached id ∙ live, live);
}

pub remove_all-requires-clause-live : goal.remove_all-requires-clause-live
remove_all-requires-clause-live c = λ id there. redundant_live _ (c.requires.each id there).redundant

pub returns-clause-stands : goal.returns-clause-stands
returns-clause-stands c =
    let d = c.detach_all.ensures in
    let following = c.law_following.ensures.stored _ _ _ (slots_freed _ _ _ _ c.remove_all.ensures c.requires.each c.args.state.now.watches.attached c.detach_all.new.self.attached d.attached) (d.follows _ c.requires.stands.ready.following) in
    freed_stands c.requires.stands c.remove_all.ensures c.requires.each d.attached d.declared following

pub returns-clause-keeps : goal.returns-clause-keeps
returns-clause-keeps c =
    let d = c.detach_all.ensures in
    let following = c.law_following.ensures.stored _ _ _ (slots_freed _ _ _ _ c.remove_all.ensures c.requires.each c.args.state.now.watches.attached c.detach_all.new.self.attached d.attached) (d.follows _ c.requires.stands.ready.following) in
    freed_keeps c.requires.stands c.remove_all.ensures c.requires.each d.attached d.declared following
