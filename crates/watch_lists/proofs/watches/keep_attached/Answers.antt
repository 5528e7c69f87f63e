use Rattle.std.proofs.Common.{◌≡◌, ◌∙◌, ap, rules}
use Rattle.std.specs.Prelude.{filter}
use Rattle.std.proofs.lemmas.Fn.{filter_same}
use Rattle.sat_terms.specs.Literal.{has}
use Rattle.watch_lists.specs.Propagation.{marked}
use Rattle.watch_lists.proofs.Sweeping.{has-filter}
use Rattle.watch_lists.proofs.watches.keep_attached.Goals as goal

pub returns : goal.returns
returns c =
    let kept : c.retain.new.self.items ≡ filter (marked c.args.attached.now) c.args.ids.now.items = filter_same _ _ _ (λ x b f' r. search rules) _ _ c.retain.ensures.filtered in
    λ k. ap (λ z. has z k) kept ∙ has-filter (marked c.args.attached.now) c.args.ids.now.items k
