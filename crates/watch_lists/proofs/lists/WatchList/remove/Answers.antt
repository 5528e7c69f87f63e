use Rattle.std.proofs.Common.{◌≡◌, ◌∙◌, ap, not, eqb, rules}
use Rattle.std.specs.Prelude.{filter}
use Rattle.std.proofs.lemmas.Fn.{filter_same}
use Rattle.watch_lists.specs.declared.lists.Watch.{Watch}
use Rattle.watch_lists.proofs.lists.WatchList.remove.Goals as goal

pub returns : goal.returns
returns c =
    let kept : c.retain.new.self.items ≡ filter (λ (w : Watch). not (eqb w.id c.args.id)) c.self.inside.watches.items = filter_same _ _ _ (λ x b f' r. search rules) _ _ c.retain.ensures.filtered in
    kept ∙ ap (filter (λ (w : Watch). not (eqb w.id c.args.id))) c.self.view_is
