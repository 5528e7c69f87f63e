use Rattle.vivify_pass.specs.Trailing.{Probed, Found}
use Rattle.vivify_pass.proofs.Circling.{if_ok_map}
use Rattle.vivify_pass.proofs.Holding.{if_found, reason_held, found_probed}
use Rattle.vivify_pass.proofs.trial.find.Goals as goal

pub probe_alone-requires-clause-free : goal.probe_alone-requires-clause-free
probe_alone-requires-clause-free c i lt r = c.in-None.ensures _ (reason_held c.args.trail.now.steps c.args.lits.now i lt r)

pub returns-in-None-clause-found : goal.returns-in-None-clause-found
returns-in-None-clause-found c =
    if_ok_map c.probe_alone.result _ _ c.probe_alone.ensures.probed
    (λ found. if_found found (λ new. Probed c.args.store.now c.args.id c.args.lits.now new.items) (λ new. Found c.args.store.now c.args.id c.args.lits.now new.items)
    (λ new p. found_probed c.args.store.now c.args.id c.args.lits.now new.items c.requires.firm c.requires.lits p))
