use Rattle.std.proofs.Common.{◌∙◌, sym}
use Rattle.firm_terms.specs.Firm.{firm}
use Rattle.var_elim.proofs.Choosing.{candidate_none}
use Rattle.var_elim.proofs.order.pop_standing.Goals as goal

pub settle_var-requires : goal.settle_var-requires
settle_var-requires c = candidate_none (firm c.loop-var.kernel.store) c.in-Some.var (rw c.store.ensures at (sym c.is_there.ensures ∙ c.if-is_there.false))
