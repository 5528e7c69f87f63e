use Rattle.std.proofs.Common.{◌≡◌, arith}
use Rattle.vivify_pass.specs.Trailing.{OnlyMakes, Found, KeepsRoot, held_form}
use Rattle.vivify_pass.proofs.Holding.{only_held, found_held, keeps_held, if_found}
use Rattle.vivify_pass.proofs.trial.find_held.Goals as goal

pub returns-clause-only : goal.returns-clause-only
returns-clause-only c =
    if_found c.in_ok-found.found (λ new. new.items ≡ held_form c.args.lits.now c.args.held) (λ new. OnlyMakes c.args.store.now c.args.id c.args.lits.now new.items)
    (λ new e. rw e (only_held c.args.store.now c.args.id c.args.lits.now c.args.held c.args.trail.now.level c.args.watches.now c.args.trail.now c.requires.ready c.requires.settled c.requires.firm c.requires.lits c.requires.normal c.law_shape.ensures c.requires.held))
    c.in_ok-found.ensures.made

pub returns-clause-found : goal.returns-clause-found
returns-clause-found c =
    if_found c.in_ok-found.found (λ new. new.items ≡ held_form c.args.lits.now c.args.held) (λ new. Found c.args.store.now c.args.id c.args.lits.now new.items)
    (λ new e. found_held c.args.store.now c.args.id c.args.lits.now c.args.held c.args.trail.now.level c.args.watches.now c.args.trail.now c.requires.ready c.requires.settled c.requires.firm c.requires.lits c.requires.normal c.law_shape.ensures c.requires.held new.items c.requires.long e)
    c.in_ok-found.ensures.made

pub returns-clause-keeps : goal.returns-clause-keeps
returns-clause-keeps c =
    if_found c.in_ok-found.found (λ new. new.items ≡ held_form c.args.lits.now c.args.held) (λ new. KeepsRoot c.args.lits.now new.items c.args.trail.now.steps)
    (λ new e. keeps_held c.args.store.now c.args.id c.args.lits.now c.args.held c.args.trail.now.level c.args.watches.now c.args.trail.now c.requires.ready c.requires.settled c.requires.firm c.requires.lits c.requires.normal c.law_shape.ensures c.requires.held new.items (omega arith) e)
    c.in_ok-found.ensures.made
