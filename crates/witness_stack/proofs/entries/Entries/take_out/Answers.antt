use Rattle.std.proofs.Common.{◌∙◌, ap, arith}
use Rattle.std.specs.List.{remove}
use Rattle.witness_stack.proofs.Gaps.{shown_out, shown_length}
use Rattle.witness_stack.proofs.entries.Entries.take_out.Goals as goal

pub returns : goal.returns
returns c =
    rw (c.new.ensures, c.new-2.ensures)
    (shown_out c.open_at.new.slots.items c.args.k c.self.inside.gap
    (omega (arith, c.open_at.ensures.long, shown_length c.self.inside.front c.self.inside.gap c.self.inside.slots.items c.self.invariant, rw (← c.self.view_is) at c.requires))
    ∙ ap (λ t. remove t c.args.k) (c.open_at.ensures.same ∙ c.self.view_is))
