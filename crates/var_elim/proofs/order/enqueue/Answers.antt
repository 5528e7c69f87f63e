use Rattle.std.proofs.Common.{◌∙◌, ℕ, List, ap, refl}
use Rattle.sat_terms.specs.Literal.{has}
use Rattle.var_elim.proofs.Choosing.{put_has}
use Rattle.var_elim.proofs.order.enqueue.Goals as goal

pub returns : goal.returns
returns c v =
    ap (λ (z : List ℕ). has z v) c.put.ensures.members ∙ put_has c.reach.new.self.members c.args.var v ∙ rw c.reach.ensures.members refl
