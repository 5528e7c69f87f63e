use Rattle.std.proofs.Common.{◌∙◌, Some, sym, ap, arith}
use Rattle.std.proofs.lemmas.List.{get_or_read}
use Rattle.user_propagator.specs.Board.{no_entry}
use Rattle.user_propagator.proofs.Seeing.{entry_none, entry_some}
use Rattle.user_propagator.proofs.notices.Notices.entry_of.Goals as goal

pub index-requires : goal.index-requires
index-requires c =
    let found = entry_some c.self.inside.seen.items c.args.var c.in-Some.place (rw (← c.self.view_is) at (sym c.place_of.ensures ∙ c.in-Some.is)) in
    let in' = found.0 in
    omega arith

pub returns-in-Some : goal.returns-in-Some
returns-in-Some c =
    let found = entry_some c.self.inside.seen.items c.args.var c.in-Some.place (rw (← c.self.view_is) at (sym c.place_of.ensures ∙ c.in-Some.is)) in
    rw (← c.self.view_is) (ap Some (get_or_read c.self.inside.seen.items c.in-Some.place c.index.result.now found.0 c.index.ensures no_entry) ∙ sym found.1)

pub returns-in-None : goal.returns-in-None
returns-in-None c = sym (entry_none _ _ (sym c.place_of.ensures ∙ c.in-None.is))
