use Rattle.std.proofs.Common.{◌≡◌}
use Rattle.vivify_pass.specs.Trailing.{OnlyMakes}
use Rattle.vivify_pass.proofs.Holding.{only_whole, if_found}
use Rattle.vivify_pass.proofs.trial.find_whole.Goals as goal

pub returns-clause-only : goal.returns-clause-only
returns-clause-only c =
    if_found c.in_ok-found.found (λ new. new.items ≡ c.args.lits.now) (λ new. OnlyMakes c.args.store.now c.args.id c.args.lits.now new.items)
    (λ new e. rw e (only_whole c.args.store.now c.args.id c.args.lits.now c.requires.normal c.requires.short)) c.in_ok-found.ensures.made
