use Rattle.std.proofs.Common.{◌∙◌, sym}
use Rattle.user_propagator.proofs.Seeing.{value_some, value_none}
use Rattle.user_propagator.proofs.notices.Notices.value.Goals as goal

pub returns-in-Some : goal.returns-in-Some
returns-in-Some c = value_some _ _ _ _ _ c.var.ensures.value (sym c.entry_of.ensures ∙ c.in-Some.is) c.eq.ensures

pub returns-in-None : goal.returns-in-None
returns-in-None c = value_none _ _ _ c.var.ensures.value (sym c.entry_of.ensures ∙ c.in-None.is)
